-- Writing the plain form of a text's tokens, token by token.
use mathlib.Core.Path.{◌≡◌, refl, sym as inv, ap, ◌∙◌}
use mathlib.Core.Bool.{Bool, true, false, cond}
use mathlib.Core.List.{List, [], ◌∷◌, ◌++◌, append_assoc, append-nil}
use Prim.Native.Nat.{ℕ, ◌-◌, ◌≤◌, ◌<◌}
use native.Mathlib.Omega.{arith}
use lib.ListN.{length, get_or, length-append}
use Rattle.texts.specs.Parts.{part}
use Rattle.tokens.proofs.Next.{forward}
use Rattle.meaning.specs.Rules.{Bytes}
use Rattle.grammar.specs.Tokens.{sign, <>, Token, name, variable, string, number, comparison, symbol, stray}
use Rattle.grammar.specs.PlainForm.{plain_sign}
use Rattle.grammar.specs.Moves.{token_number, sign_number, comparison_number}
use Rattle.grammar.specs.Writing.{token_bytes}
use Rattle.syntax.specs.declared.token.TokenRead.{TokenRead}
use Rattle.syntax.specs.Text.{token_read, next_of}
use Rattle.syntax.proofs.Tokens.{token_by, within, number_here}
use Rattle.plaintokens.specs.Put.{Room, Put}
use Rattle.plaintokens.specs.Neighbours.{left_out, blank_between}
use Rattle.plaintokens.specs.PlainTokens.{plain_token, first_kind, first_byte, plain_unless, plain_behind, written_behind}
use Rattle.plaintokens.specs.PlainText.{spelled, unless, plain_tokens_from, still, plain_text}
use Rattle.plaintokens.proofs.Puts.{put_none, put_then}
use Rattle.plaintokens.proofs.TokensFrom.{more, none_left, some_bytes, kind_first, byte_first, written_here}

-- ---- one token of a list

-- `<>` and `!=` want the same blanks behind them
same_behind : (t : Token) (ts : List Token) → written_behind (token_number (plain_token t)) ts ≡ written_behind (token_number t) ts
unfolding plain_token plain_sign token_number sign_number comparison_number written_behind
same_behind (name b) ts = refl
same_behind (variable b) ts = refl
same_behind (string b) ts = refl
same_behind (number n) ts = refl
same_behind (comparison (sign c)) ts = refl
same_behind (comparison <>) [] = refl
same_behind (comparison <>) (u ∷ us) = refl
same_behind (symbol s) ts = refl
same_behind (stray b) ts = refl

-- and before them
same_before : (last : ℕ) (t : Token) → blank_between last (token_number (plain_token t)) ≡ blank_between last (token_number t)
unfolding plain_token plain_sign token_number sign_number comparison_number
same_before last (name b) = refl
same_before last (variable b) = refl
same_before last (string b) = refl
same_before last (number n) = refl
same_before last (comparison (sign c)) = refl
same_before last (comparison <>) = refl
same_before last (symbol s) = refl
same_before last (stray b) = refl

-- what is written of the first, and what is still to be written behind it
still_on : (before last : ℕ) (t : Token) (ts : List Token) (out : Bool) → out ≡ left_out before (token_number t) (first_kind ts) (first_byte ts) → still before last (t ∷ ts) ≡ unless out (blank_between last (token_number t) ++ token_bytes (plain_token t)) ++ still (token_number t) (cond out last (token_number t)) ts
unfolding plain_behind plain_unless written_behind
still_on before last t ts out e = rw (← e) (by out)
  where
    by : (out : Bool) → written_behind last (plain_unless out t ++ plain_behind (token_number t) ts) ≡ unless out (blank_between last (token_number t) ++ token_bytes (plain_token t)) ++ still (token_number t) (cond out last (token_number t)) ts
    by true = refl
    by false = rw (same_before last t, same_behind t (plain_behind (token_number t) ts)) (inv (append_assoc (blank_between last (token_number t)) (token_bytes (plain_token t)) _))

-- ---- a turn of the loop

-- what is written, and what is still to be written of the tokens from a place on, are the plain form; `token` stands at that place
pub record SoFar (text buffer : Bytes) (before last next : ℕ) (token : TokenRead) (left : Bytes) : Type 0 where
  pub at : ℕ
  pub here : token ≡ token_read false text at
  pub done : Bytes
  pub put : Put buffer 0 done next left
  pub whole : plain_text text ≡ done ++ still before last (plain_tokens_from text at)

pub so_far_nothing : (text buffer : Bytes) (t : TokenRead) → t ≡ token_read false text 0 → SoFar text buffer 8 8 0 t buffer
so_far_nothing text buffer t e = record { at = 0; here = e; done = []; put = put_none buffer 0; whole = refl }

module _ {text buffer left : Bytes} {before last next : ℕ} {t : TokenRead} (g : SoFar text buffer before last next t left) where
  pub all_written : t.kind ≡ 20 → Put buffer 0 (plain_text text) next left
  unfolding plain_behind written_behind
  all_written e = rw (g.whole, none_left text g.at t g.here e, append-nil g.done) g.put

  -- the text gets shorter
  pub turn_less : (t.kind ≡ 20 → ⊥) → (behind : TokenRead) → behind ≡ token_read false text (next_of t) → length text - behind.place.start < length text - t.place.start
  turn_less n behind eb =
      let w : next_of t ≤ length text = within false text g.at t g.here in
      let b = some_bytes text g.at t g.here n in
      let f : next_of t ≤ behind.place.start = rw eb (forward true text (next_of t) w) in
      omega arith

  module _ (n : t.kind ≡ 20 → ⊥) (behind : TokenRead) (eb : behind ≡ token_read false text (next_of t)) (first : ℕ) (ef : first ≡ get_or text behind.place.start 0) (out : Bool) (eo : out ≡ left_out before t.kind behind.kind first) where
    abbrev bytes : Bytes
    bytes = unless out (blank_between last t.kind ++ spelled text t)

    turn : still before last (plain_tokens_from text g.at) ≡ bytes ++ still t.kind (cond out last t.kind) (plain_tokens_from text (next_of t))
    turn =
        let h = token_by t.kind (part text t.place) in
        let ts = plain_tokens_from text (next_of t) in
        let k : token_number h ≡ t.kind = number_here false text g.at t g.here n in
        let e : out ≡ left_out before (token_number h) (first_kind ts) (first_byte ts) = rw (k, kind_first text (next_of t) behind eb, byte_first text (next_of t) behind eb, ← ef) eo in
        rw (more text g.at t g.here n) (still_on before last h ts out e ∙ rw (k, written_here text g.at t g.here n))

    pub turn_room : Room 0 (plain_text text) → Room next bytes
    turn_room h = let e = simp length-append at (ap length (g.whole ∙ ap (λ (b : Bytes). g.done ++ b) turn)) in omega (arith, g.put.next)

    pub turn_on : {k : ℕ} {m : Bytes} → Put left next bytes k m → (l : ℕ) → l ≡ cond out last t.kind → SoFar text buffer t.kind l k behind m
    turn_on p l el = record { at = next_of t; here = eb; done = g.done ++ bytes; put = put_then g.put p; whole = rw el (g.whole ∙ rw turn (inv (append_assoc g.done bytes _))) }
