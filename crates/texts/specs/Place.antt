-- Lines and columns, and places, which have them. A line ends with its newline; lines and columns count from 1, and every byte is one column.
use Rattle.std.specs.Prelude.{ℕ, suc, ◌+◌, ◌-◌, ◌≤◌, ◌<◌, ◌≡◌, cond, List, [], ◌∷◌, eqb, length, take}
use Rattle.texts.specs.declared.place.Place.{Place}

-- how many of the bytes are newlines
unfoldable pub newlines : List ℕ → ℕ
newlines [] = 0
newlines (b ∷ bs) = cond (eqb b 10) (suc (newlines bs)) (newlines bs)

-- how many of the bytes stand behind the last newline; where there is none, all of them and n more
unfoldable pub since : ℕ → List ℕ → ℕ
since n [] = n
since n (b ∷ bs) = since (cond (eqb b 10) 0 (suc n)) bs

-- the line of a byte of a text: one more than the newlines before it
unfoldable pub line_of : List ℕ → ℕ → ℕ
line_of text byte = suc (newlines (take byte text))

-- its column: one more than the bytes since the last of them. The end of a text has a line and a column too: those behind its last byte
unfoldable pub column_of : List ℕ → ℕ → ℕ
column_of text byte = suc (since 0 (take byte text))

-- the part of a text that starts at a byte and has a length
abbrev pub place_from : List ℕ → ℕ → ℕ → Place
place_from text start len = record { start = start; len = len; line = line_of text start; column = column_of text start }

-- empty, at a text's start
abbrev pub text_start : Place
text_start = record { start = 0; len = 0; line = 1; column = 1 }

-- the place starts in the text or at its end, and has the line and the column of its start
pub record Stands (text : List ℕ) (p : Place) : Type 0 where
  pub inside : p.start ≤ length text
  pub line : p.line ≡ line_of text p.start
  pub column : p.column ≡ column_of text p.start

-- ---- counting on from a place

abbrev pub with_len : Place → ℕ → Place
with_len p len = record { start = p.start; len = len; line = p.line; column = p.column }

-- a byte further on the same line
abbrev pub along : Place → ℕ → Place
along p byte = record { start = byte; len = 0; line = p.line; column = p.column + (byte - p.start) }

-- behind a part of one line
abbrev pub past : Place → Place
past p = along p (p.start + p.len)

-- behind the byte at the place
unfoldable pub behind : Place → ℕ → Place
behind p b = cond (eqb b 10) (record { start = p.start + 1; len = 0; line = p.line + 1; column = 1 }) (along p (p.start + 1))

-- as many bytes as a text may have, at the most, and one more
abbrev pub countless : ℕ
countless = 9_223_372_036_854_775_808

-- lines and columns can be counted on from the place as far as a byte
pub record Countable (p : Place) (byte : ℕ) : Type 0 where
  pub further : p.start ≤ byte
  pub few_lines : p.line ≤ countless
  pub few_columns : p.column ≤ countless
  pub fits : byte < countless
