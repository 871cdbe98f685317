-- A text that is read as a program: its tokens' plain form in bytes is the program's.
use mathlib.Core.Path.{◌≡◌, sym as inv}
use mathlib.Core.Bool.{false}
use Prim.Native.Nat.{ℕ}
use native.Mathlib.Omega.{arith}
use Rattle.reading.specs.Reading.{tokens}
use Rattle.meaning.specs.Rules.{Bytes}
use Rattle.grammar.specs.Trees.{Program}
use Rattle.grammar.specs.Spelling.{spell}
use Rattle.grammar.specs.PlainForm.{plain_form}
use Rattle.plainform.specs.PlainBytes.{ReadAs, plain_bytes}
use Rattle.plainform.proofs.Theorems.{tokens_read, plain_no_longer}
use Rattle.plaintokens.specs.Put.{Room, Put}
use Rattle.plaintokens.specs.Promise.{Readable, PutsPlain}
use Rattle.plaintokens.specs.PlainText.{plain_text}
use Rattle.plaintokens.proofs.PlainTokens.{plain_tokens_of}
use Rattle.plaintokens.proofs.Blanks.{written_first}

module _ (text : Bytes) (c : Program false) (r : ReadAs text c) where
  pub plain_text_of : plain_text text ≡ plain_bytes c
  plain_text_of = rw (← (tokens_read text c r), plain_tokens_of c) (inv (written_first (tokens (spell (plain_form c)))))

-- there is room for it, for it is no longer than the text
pub room_for : (text : Bytes) → Readable text → Room 0 (plain_text text)
room_for text h = let l = plain_no_longer text h.program h.read in let s = h.size in rw (plain_text_of text h.program h.read) (omega arith)

pub put_plain : (text : Bytes) {buffer left : Bytes} {n : ℕ} → Put buffer 0 (plain_text text) n left → PutsPlain text buffer n left
put_plain text p c r = rw (← (plain_text_of text c r)) p
