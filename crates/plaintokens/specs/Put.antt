-- Writing bytes into a lent buffer from a place on.
use Rattle.std.specs.Prelude.{◌≡◌, ℕ, ◌+◌, ◌≤◌, length}
use Rattle.std.proofs.lemmas.List.Edits.{sets}
use Rattle.texts.specs.Sizes.{most_text}
use Rattle.meaning.specs.Rules.{Bytes}

-- bytes from a place on end within a program's size; its plain form has no more
abbrev pub Room : ℕ → Bytes → Type 0
Room at bytes = at + length bytes ≤ most_text

-- the bytes stand in the buffer from the place on, as far as it reaches; `after` is the place behind them, and `left` the buffer then
pub record Put (buffer : Bytes) (at : ℕ) (bytes : Bytes) (after : ℕ) (left : Bytes) : Type 0 where
  pub next : after ≡ at + length bytes
  pub laid : left ≡ sets buffer at bytes
