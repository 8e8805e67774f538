-- What a call says that declines: the number of the cause, and what is returned beside it. The numbers and the last column
-- are those of the table in docs/SCOPE.md, "Why a call declines".
use Rattle.std.specs.Prelude.{ℕ, List, [], ◌∷◌, Result, Ok, Err}
use Rattle.reader.specs.declared.refusal.Refusal.{Refusal}
use Rattle.reader.specs.declared.refusal.Refusal.TheVariants.{Mark, PeptideCount, LeafCount, RegionCount, Layout, LeafLengths, Misplaced, Misordered, Crossing, TooDeep, PathLength, OffTheLine, Repeated, Selection, Fraction, Room, RowCount, Row, Rule, PValueCount, PValue, Deviation, Level, ListLength, Tally, LevelCounts, Levels}

-- the number of the cause
abbrev pub number_of : Refusal → ℕ
-- the family has fewer than 16 bytes, or does not begin with the mark
number_of Mark = 1
-- m is 0 or more than 4,096
number_of PeptideCount = 2
-- N is 0 or more than 4,096
number_of LeafCount = 3
-- K is more than 2N - 1
number_of RegionCount = 4
-- an offset or the total length in the header is not as laid down, or the family has not as many bytes as that total
number_of Layout = 5
-- the leaf lengths do not add up to m
number_of LeafLengths = 6
-- a region's first leaf is 0, or its last leaf is below its first or more than N
number_of Misplaced = 7
-- a region does not stand after the one before it in the order laid down, or has the same leaves as that one
number_of Misordered = 8
-- two regions share a leaf, and neither is inside the other
number_of Crossing = 9
-- a region has more than 63 regions around it
number_of TooDeep = 10
-- the path is longer than m, or, in the program, the path file has an odd number of bytes
number_of PathLength = 11
-- a number of the path is 0 or more than m
number_of OffTheLine = 12
-- a peptide stands twice in the path
number_of (Repeated place) = 13
-- the selection has not m bytes, or one of its bytes is more than 1; likewise of a list of selections
number_of Selection = 14
-- b is 0, or a is more than b
number_of Fraction = 15
-- an output is too short
number_of Room = 16
-- the p-values or the folds are not m numbers, or the output for the selection has fewer than m bytes
number_of RowCount = 17
-- a p-value is not a number or is outside 0 to 1, or a fold is not finite
number_of Row = 18
-- a cut or f of the rule is not a number, or f is under 0
number_of Rule = 19
-- the p-values in millionths are not m numbers
number_of PValueCount = 20
-- a p-value is more than 1,000,000 millionths
number_of PValue = 21
-- the constant for bounds from p-values is more than 100,000,000
number_of Deviation = 22
-- the level of the Simes bound is 0 or more than 1,000,000 millionths
number_of Level = 23
-- a list has more than 32 selections
number_of ListLength = 24
-- the tally with the list's charge would pass 4,294,967,295
number_of Tally = 25
-- the level counts of a file by level do not add up to K
number_of LevelCounts = 26
-- a region's level, or its place in the level, is not so; or it has the same leaves as an earlier one
number_of Levels = 27

-- what is returned beside the number: of a peptide that stands twice in the path the place, counted from 1, else nothing
abbrev pub beside : Refusal → List ℕ
beside (Repeated place) = place ∷ []
beside _ = []

-- the number that a call answers: 0 where it does its work, else that of the cause
abbrev pub verdict : {A : Type 0} → Result A Refusal → ℕ
verdict (Ok answer) = 0
verdict (Err refusal) = number_of refusal

-- What an answer says: a cause's number, 0 for none, and the values that come with it.
pub record Report : Type 0 where
  pub number : ℕ
  pub values : List ℕ

-- what the answer of a call says, given the values of what it answers where it does its work
abbrev pub report : {A : Type 0} → (A → List ℕ) → Result A Refusal → Report
report values (Ok answer) = record { number = 0; values = values answer }
report values (Err refusal) = record { number = number_of refusal; values = beside refusal }
