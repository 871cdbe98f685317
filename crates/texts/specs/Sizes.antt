-- The size of a text; what a text is made of has its sizes in `grammar`, Sizes.
use Rattle.std.specs.Prelude.{ℕ}

-- the most bytes of a program's text and of a solver's output
abbrev pub most_text : ℕ
most_text = 65_536
