-- What the case writer and the edition converter promise: the answer, the output, and that both read as what was given.
-- `output_after`: the output. `ReadsAs`: a file and what a reader finds in it. `WritePromise`, `ConvertPromise`: the promises.
use Rattle.std.specs.Prelude.{ℕ, ◌≤◌, ◌≡◌, List, ◌++◌, length, take, drop, Ok, Err}
use Rattle.reading.specs.Result.{Refusable}
use Rattle.case_file.specs.Trailer.{counts_of}
use Rattle.case_contents.specs.Contents.{Contents, in_edition, contents_of, file_of}
use Rattle.case_contents.specs.Refusals.{written, converted}
use Rattle.case_contents.specs.Accepted.{Accepted}

-- the file in front: "Output bytes after the file keep theirs"; "a refusal changes nothing in the output buffer"
unfoldable pub output_after : Refusable ℕ → List ℕ → List ℕ → List ℕ
output_after (Err k) file out = out
output_after (Ok n) file out = file ++ drop (length file) out

-- a reader accepts the file, and finds these contents
pub record ReadsAs (file : List ℕ) (c : Contents) : Type 0 where
  pub accepted : Accepted file
  pub contents : contents_of file ≡ c

-- a writer of the contents c, from the output before to the output after
pub record WritePromise (c : Contents) (before after : List ℕ) (r : Refusable ℕ) : Type 0 where
  -- the file's length, or the refusal
  pub answer : r ≡ written c (length before)
  pub output : after ≡ output_after r (file_of c) before
  -- "reading its file gives the same contents, floats by their bits"
  pub read_back : (n : ℕ) → r ≡ Ok n → ReadsAs (take n after) c
  -- any accepted file with these contents is the one that is written: "in one edition equal contents give equal bytes"
  pub only : (file : List ℕ) → ReadsAs file c → length file ≤ length before → (r ≡ Ok (length file)) × (take (length file) after ≡ file)

-- a converter of a file to edition e
pub record ConvertPromise (e : ℕ) (file before after : List ℕ) (r : Refusable ℕ) : Type 0 where
  pub answer : r ≡ converted e file (length before)
  pub output : after ≡ output_after r (file_of (in_edition e (contents_of file))) before
  -- "other contents kept"; zones too, which are all 0 in edition 1
  pub kept : (n : ℕ) → r ≡ Ok n → ReadsAs (take n after) (in_edition e (contents_of file))
  -- "and back": what was converted gives the file again, byte for byte, to an output that it fits
  pub back : (n room : ℕ) → r ≡ Ok n → length file ≤ room →
      (converted (counts_of file).edition (take n after) room ≡ Ok (length file))
      × (file_of (in_edition (counts_of file).edition (contents_of (take n after))) ≡ file)
