-- "a numbered refusal": the number of each, from "Who can cause which refusal" of 01, 45 to 47 from 02, and 21 of include/hookyellow.h.
use Rattle.std.specs.Prelude.{ℕ}
use Rattle.refusal.specs.declared.Refusal.{Refusal}
use Rattle.refusal.specs.declared.Refusal.TheVariants.{WrongTrailer, CountOverLimit, WrongDefinitions, ShortWorkArea, ShortMarks, WrongRequestBytes, ShortAnswers, NoCells, CoordinateNotFinite, CoordinateTooLarge, WrongKind, NoSuchPoint, DegenerateFace, ThirdUser, NoVolume, WrongOrientation, NotConnected, FlatBounds, TooManyBins, FileTooLong, TooFewPlaces, IllFormed, OtherDimension, TooFewSeeds, TooManySteps, WrongOptions, SeedNowhere, WrongPlane, OriginTooLarge, NoSuchField, SampleNotFinite, FluxNotFinite, NoStatistics, InvalidSample, NoIntegrals, AnswerTooLong, ZoneTooLarge, ZonesLost, ShortOutput}

-- the number of a refusal
abbrev pub number : Refusal → ℕ
number WrongTrailer = 1
number CountOverLimit = 2
number WrongDefinitions = 3
number ShortWorkArea = 4
number ShortMarks = 5
number WrongRequestBytes = 6
number ShortAnswers = 7
number NoCells = 8
number CoordinateNotFinite = 9
number CoordinateTooLarge = 10
number WrongKind = 11
number NoSuchPoint = 12
number DegenerateFace = 13
number ThirdUser = 14
number NoVolume = 15
number WrongOrientation = 16
number NotConnected = 17
number FlatBounds = 18
number TooManyBins = 19
number FileTooLong = 20
number TooFewPlaces = 21
number IllFormed = 30
number OtherDimension = 31
number TooFewSeeds = 32
number TooManySteps = 33
number WrongOptions = 34
number SeedNowhere = 35
number WrongPlane = 36
number OriginTooLarge = 37
number NoSuchField = 38
number SampleNotFinite = 39
number FluxNotFinite = 40
number NoStatistics = 41
number InvalidSample = 42
number NoIntegrals = 43
number AnswerTooLong = 44
number ZoneTooLarge = 45
number ZonesLost = 46
number ShortOutput = 47
