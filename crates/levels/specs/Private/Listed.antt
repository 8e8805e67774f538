-- What a PHFL file lists, where it is held as one with none of the causes 1 to 7.
use Rattle.reader.specs.Family.{Family}
use Rattle.levels.specs.Levels.{listed_family}
use Rattle.levels.specs.declared.listing.Listing.{Listing}

-- the family that it lists
abbrev pub listed : Listing → Family
listed l = listed_family l.file.now
