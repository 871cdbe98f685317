-- The table of names: numbers in one slice. Its first is how many names there are. Then stands a head for each slot, and then a row of three
-- for each name: where its bytes start in the two texts, how many they are, and the link to an earlier name of its slot.
use Rattle.std.specs.Prelude.{◌≡◌, List, [], ◌∷◌, ◌++◌, ℕ, zero, suc, ◌+◌, ◌-◌, ◌*◌, ◌/◌, ◌%◌, ◌≤◌, ◌<◌, min, length, get_or, set}
use Rattle.texts.specs.declared.place.Span.{Span}
use Rattle.texts.specs.Places.{span_from, number_limit}
use Rattle.texts.specs.Sizes.{most_text}
use Rattle.meaning.specs.Rules.{Bytes}
use Rattle.codes.specs.Codes.{Distinct}
use Rattle.names.specs.Texts.{bytes_at}

abbrev pub slots : ℕ
slots = 4_096

abbrev pub first_row : ℕ
first_row = 4_097

-- as many as the two texts have bytes: each name that is put in has one of its own
abbrev pub most_names : ℕ
most_names = 131_072

-- how many names a table of so many numbers has room for
abbrev pub capacity : ℕ → ℕ
capacity size = min ((size - first_row) / 3) most_names

-- the numbers of a table with room for them all
abbrev pub table_size : ℕ
table_size = 397_313

-- as many as two small texts have bytes, and the numbers of a table with room for them
abbrev pub few_names : ℕ
few_names = 8_192

abbrev pub small_size : ℕ
small_size = 28_673

abbrev pub factor : ℕ
factor = 241

-- ---- the numbers of a table

abbrev pub count : List ℕ → ℕ
count table = get_or table 0 0

abbrev pub head : List ℕ → ℕ → ℕ
head table slot = get_or table (slot + 1) 0

abbrev pub row : ℕ → ℕ
row i = first_row + i * 3

abbrev pub link : List ℕ → ℕ → ℕ
link table i = get_or table (row i + 2) 0

-- where a name's bytes stand in the two texts
abbrev pub span_of : List ℕ → ℕ → Span
span_of table i = span_from (get_or table (row i) 0) (get_or table (row i + 1) 0)

-- ---- the names that a table stands for

unfoldable pub name_at : Bytes → Bytes → List ℕ → ℕ → Bytes
name_at program output table i = bytes_at program output (span_of table i)

-- the first n of a family, in order
unfoldable pub first : (ℕ → Bytes) → ℕ → List Bytes
first name zero = []
first name (suc n) = first name n ++ (name n ∷ [])

abbrev pub names_of : Bytes → Bytes → List ℕ → List Bytes
names_of program output table = first (name_at program output table) (count table)

-- the bytes of the name with a number; none where no name has it
abbrev pub bytes_of : Bytes → Bytes → List ℕ → ℕ → Bytes
bytes_of program output table i = get_or (names_of program output table) i []

-- ---- the slot of a name, a hash of its bytes

unfoldable pub slot_from : ℕ → Bytes → ℕ
slot_from slot [] = slot
slot_from slot (b ∷ rest) = slot_from ((slot * factor + b) % slots) rest

abbrev pub slot_of : Bytes → ℕ
slot_of name = slot_from 0 name

-- ---- a table in order

-- a link is 0, or one more than the number of the last of the first n names that is in the slot
pub record Latest (name : ℕ → Bytes) (slot n link : ℕ) : Type 0 where
  pub within : link ≤ n
  pub in_slot : (j : ℕ) → link ≡ suc j → slot_of (name j) ≡ slot
  pub latest : (i : ℕ) → i < n → slot_of (name i) ≡ slot → i < link

pub record Table (program output : Bytes) (table : List ℕ) : Type 0 where
  pub program_size : length program ≤ most_text
  pub output_size : length output ≤ most_text
  pub size : first_row ≤ length table
  pub room : count table ≤ capacity (length table)
  pub distinct : Distinct (names_of program output table)
  pub heads : (slot : ℕ) → slot < slots → Latest (name_at program output table) slot (count table) (head table slot)
  pub links : (i : ℕ) → i < count table → Latest (name_at program output table) (slot_of (name_at program output table i)) i (link table i)

-- ---- a row more

-- there is room for it, and what it holds fits
pub record Addable (table : List ℕ) (slot : ℕ) (span : Span) : Type 0 where
  pub size : first_row ≤ length table
  pub room : count table < capacity (length table)
  pub in_slots : slot < slots
  pub start_fits : span.start < number_limit
  pub len_fits : span.len < number_limit
  pub link_fits : head table slot < number_limit

-- its link is its slot's head, and then the head is one more than its number
unfoldable pub with_row : List ℕ → ℕ → Span → List ℕ
with_row table slot span =
    let n = count table in
    set (set (set (set (set table (row n) span.start) (row n + 1) span.len) (row n + 2) (head table slot)) (slot + 1) (n + 1)) 0 (n + 1)
