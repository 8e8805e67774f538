-- The buffers of the program: how much of each file is read, and how long the text can be.
use Rattle.std.specs.Prelude.{ℕ, ◌+◌, ◌*◌}

-- the first 57,355 bytes of family.phf are read: one more than the header, 4,096 leaves and 8,191 regions have
abbrev pub family_room : ℕ
family_room = 16 + 2 * 4096 + 6 * 8191 + 1

-- the first 8,194 bytes of path.u16: one number more than 4,096
abbrev pub path_room : ℕ
path_room = 2 * 4096 + 2

-- the heading and 4,097 lines: four numbers of at most five digits, and a byte after each
abbrev pub text_room : ℕ
text_room = 21 + 24 * 4097
