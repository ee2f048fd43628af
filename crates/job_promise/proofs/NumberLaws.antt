-- The number of a result is that of no other result. Assumes nothing.
use Prim.Native.Nat.{ℕ, ◌≤◌}
use native.Mathlib.Omega.{arith}
use mathlib.Core.Path.{◌≡◌, refl, ap, sym, ◌∙◌}
use mathlib.Core.List.{List, [], ◌∷◌}
use lib.ListN.{get_or}
use Rattle.std.specs.Prelude.{Ok, Err}
use Rattle.refusal.specs.declared.Refusal.{Refusal}
use Rattle.refusal.specs.declared.Refusal.TheVariants.{WrongTrailer, CountOverLimit, WrongDefinitions, ShortWorkArea, ShortMarks, WrongRequestBytes, ShortAnswers, NoCells, CoordinateNotFinite, CoordinateTooLarge, WrongKind, NoSuchPoint, DegenerateFace, ThirdUser, NoVolume, WrongOrientation, NotConnected, FlatBounds, TooManyBins, FileTooLong, TooFewPlaces, IllFormed, OtherDimension, TooFewSeeds, TooManySteps, WrongOptions, SeedNowhere, WrongPlane, OriginTooLarge, NoSuchField, SampleNotFinite, FluxNotFinite, NoStatistics, InvalidSample, NoIntegrals, AnswerTooLong, ZoneTooLarge, ZonesLost, ShortOutput}
use Rattle.refusal.specs.Number.{number}
use Rattle.reading.specs.Result.{Refusable}
use Rattle.job_promise.specs.Job.{number_of}

-- the refusals at their numbers
named : ℕ → Refusal
named k = get_or (WrongTrailer ∷ WrongTrailer ∷ CountOverLimit ∷ WrongDefinitions ∷ ShortWorkArea ∷ ShortMarks ∷ WrongRequestBytes ∷ ShortAnswers ∷ NoCells ∷ CoordinateNotFinite ∷ CoordinateTooLarge ∷ WrongKind ∷ NoSuchPoint ∷ DegenerateFace ∷ ThirdUser ∷ NoVolume ∷ WrongOrientation ∷ NotConnected ∷ FlatBounds ∷ TooManyBins ∷ FileTooLong ∷ TooFewPlaces ∷ WrongTrailer ∷ WrongTrailer ∷ WrongTrailer ∷ WrongTrailer ∷ WrongTrailer ∷ WrongTrailer ∷ WrongTrailer ∷ WrongTrailer ∷ IllFormed ∷ OtherDimension ∷ TooFewSeeds ∷ TooManySteps ∷ WrongOptions ∷ SeedNowhere ∷ WrongPlane ∷ OriginTooLarge ∷ NoSuchField ∷ SampleNotFinite ∷ FluxNotFinite ∷ NoStatistics ∷ InvalidSample ∷ NoIntegrals ∷ AnswerTooLong ∷ ZoneTooLarge ∷ ZonesLost ∷ ShortOutput ∷ []) k WrongTrailer

back : (r : Refusal) → named (number r) ≡ r
unfolding named
back WrongTrailer = refl
back CountOverLimit = refl
back WrongDefinitions = refl
back ShortWorkArea = refl
back ShortMarks = refl
back WrongRequestBytes = refl
back ShortAnswers = refl
back NoCells = refl
back CoordinateNotFinite = refl
back CoordinateTooLarge = refl
back WrongKind = refl
back NoSuchPoint = refl
back DegenerateFace = refl
back ThirdUser = refl
back NoVolume = refl
back WrongOrientation = refl
back NotConnected = refl
back FlatBounds = refl
back TooManyBins = refl
back FileTooLong = refl
back TooFewPlaces = refl
back IllFormed = refl
back OtherDimension = refl
back TooFewSeeds = refl
back TooManySteps = refl
back WrongOptions = refl
back SeedNowhere = refl
back WrongPlane = refl
back OriginTooLarge = refl
back NoSuchField = refl
back SampleNotFinite = refl
back FluxNotFinite = refl
back NoStatistics = refl
back InvalidSample = refl
back NoIntegrals = refl
back AnswerTooLong = refl
back ZoneTooLarge = refl
back ZonesLost = refl
back ShortOutput = refl

above-0 : (r : Refusal) → 1 ≤ number r
above-0 WrongTrailer = omega arith
above-0 CountOverLimit = omega arith
above-0 WrongDefinitions = omega arith
above-0 ShortWorkArea = omega arith
above-0 ShortMarks = omega arith
above-0 WrongRequestBytes = omega arith
above-0 ShortAnswers = omega arith
above-0 NoCells = omega arith
above-0 CoordinateNotFinite = omega arith
above-0 CoordinateTooLarge = omega arith
above-0 WrongKind = omega arith
above-0 NoSuchPoint = omega arith
above-0 DegenerateFace = omega arith
above-0 ThirdUser = omega arith
above-0 NoVolume = omega arith
above-0 WrongOrientation = omega arith
above-0 NotConnected = omega arith
above-0 FlatBounds = omega arith
above-0 TooManyBins = omega arith
above-0 FileTooLong = omega arith
above-0 TooFewPlaces = omega arith
above-0 IllFormed = omega arith
above-0 OtherDimension = omega arith
above-0 TooFewSeeds = omega arith
above-0 TooManySteps = omega arith
above-0 WrongOptions = omega arith
above-0 SeedNowhere = omega arith
above-0 WrongPlane = omega arith
above-0 OriginTooLarge = omega arith
above-0 NoSuchField = omega arith
above-0 SampleNotFinite = omega arith
above-0 FluxNotFinite = omega arith
above-0 NoStatistics = omega arith
above-0 InvalidSample = omega arith
above-0 NoIntegrals = omega arith
above-0 AnswerTooLong = omega arith
above-0 ZoneTooLarge = omega arith
above-0 ZonesLost = omega arith
above-0 ShortOutput = omega arith

pub same-number : (o q : Refusable (Unit {0})) → number_of q ≡ number_of o → q ≡ o
unfolding number_of
same-number (Ok t) (Ok u) e = refl
same-number (Ok t) (Err r) e = absurd (omega (arith, above-0 r))
same-number (Err r) (Ok t) e = absurd (omega (arith, above-0 r))
same-number (Err r) (Err s) e = ap Err (sym (back s) ∙ ap named e ∙ back r)
