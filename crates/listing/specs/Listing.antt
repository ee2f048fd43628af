-- 01, "The program `airjob`": what it prints, in ASCII. Quoted lines are 01's.
-- `decimal_within`, `decimal_text`, `hex_text`: a number. `words_text`, `answer_text`, `answers_text`: the answers.
-- `marks_from`, `marks_text`: the marked cells. `done_text`, `refused_text`: the text of a job that is done, or refused.
use Rattle.std.specs.Prelude.{ℕ, zero, suc, ◌/◌, ◌%◌, cond, List, [], ◌∷◌, ◌++◌, ltb, eqb, length, take, drop}
use Rattle.io.specs.Digits.{hex_digit_ascii, last_digits}

-- the fewest decimal digits that hold n, and no more than k
unfoldable pub decimal_within : ℕ → ℕ → List ℕ
decimal_within zero n = []
decimal_within (suc k) n = cond (ltb n 10) [] (decimal_within k (n / 10)) ++ hex_digit_ascii (n % 10) ∷ []

-- "in decimal": 20 digits hold every number of 64 bits
unfoldable pub decimal_text : ℕ → List ℕ
decimal_text n = decimal_within 20 n

-- "as 16 hexadecimal digits"
unfoldable pub hex_text : ℕ → List ℕ
hex_text n = last_digits 16 16 n

-- "words as 16 hexadecimal digits", each after a space
unfoldable pub words_text : List ℕ → List ℕ
words_text [] = []
words_text (w ∷ l) = 32 ∷ (hex_text w ++ words_text l)

-- "A line per answer: refusal and n in decimal, words"
unfoldable pub answer_text : ℕ → List ℕ → List ℕ
answer_text refusal words = decimal_text refusal ++ 32 ∷ (decimal_text (length words) ++ (words_text words ++ 10 ∷ []))

-- a line for each of k answers, as far as there are words: each has its refusal, its n, and n words
unfoldable pub answers_text : ℕ → List ℕ → List ℕ
answers_text zero l = []
answers_text (suc k) [] = []
answers_text (suc k) (refusal ∷ []) = []
answers_text (suc k) (refusal ∷ n ∷ l) = answer_text refusal (take n l) ++ answers_text k (drop n l)

-- "the marked cells", from cell i on, each after a space: those whose mark is 1
unfoldable pub marks_from : ℕ → List ℕ → List ℕ
marks_from i [] = []
marks_from i (m ∷ l) = cond (eqb m 1) (32 ∷ decimal_text i) [] ++ marks_from (suc i) l

-- from cell 0 on
unfoldable pub marks_text : List ℕ → List ℕ
marks_text l = marks_from 0 l

-- "A line per answer [..]; last `read` and the marked cells"
unfoldable pub done_text : List ℕ → ℕ → List ℕ → List ℕ
done_text answers count marks = answers_text count answers ++ ((114 ∷ 101 ∷ 97 ∷ 100 ∷ []) ++ (marks_text marks ++ 10 ∷ []))

-- "a refused job prints `refused` and its number"
unfoldable pub refused_text : ℕ → List ℕ
refused_text k = (114 ∷ 101 ∷ 102 ∷ 117 ∷ 115 ∷ 101 ∷ 100 ∷ 32 ∷ []) ++ (decimal_text k ++ 10 ∷ [])
