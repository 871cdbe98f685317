-- A program's tokens from a place on: the token that stands there, its kind and bytes, and what is written of it.
use mathlib.Core.Path.{◌≡◌, refl, sym as inv, ap, ◌∙◌}
use mathlib.Core.Bool.{Bool, true, false, cond}
use mathlib.Core.List.{[], ◌∷◌}
use Prim.Native.Nat.{ℕ, ◌≤◌}
use native.Mathlib.Nat.{add-zero}
use native.Mathlib.Omega.{arith}
use lib.Dec.{eqb}
use lib.ListN.{length, get_or, take, drop, get_or-eq_default}
use lib.Seq.{get_or-take, get_or-drop}
use borrow.Author.Tests.{ne_eqb, eqb-true, eqb-false}
use Rattle.lexis.specs.declared.kind.Kind.TheVariants.{Stray}
use Rattle.lexis.specs.Kind.{kind_number, is_end, is_stray}
use Rattle.tokens.specs.Token.{next_token}
use Rattle.texts.specs.Parts.{part}
use Rattle.lexis.proofs.KindNumber.{kind_at, kind_at_number, is_stray_lem}
use Rattle.tokens.proofs.Spelled.{spells}
use Rattle.tokens.proofs.Next.{next_found, not_empty}
use Rattle.reading.specs.Reading.{unplaced}
use Rattle.meaning.specs.Rules.{Bytes}
use Rattle.grammar.specs.Tokens.{sign, <>, Token, name, variable, string, number, comparison, symbol, stray}
use Rattle.grammar.specs.PlainForm.{plain_sign}
use Rattle.grammar.specs.Moves.{token_number, sign_number}
use Rattle.grammar.specs.Writing.{comparison_bytes, sign_bytes, token_bytes}
use Rattle.syntax.specs.declared.token.TokenRead.{TokenRead}
use Rattle.syntax.specs.Text.{token_of, token_read, next_of}
use Rattle.syntax.proofs.Tokens.{token_by, part_length, number_here, placed_more, placed_end, end_here, spelled_here}
use Rattle.plainform.proofs.Proper.{token_says}
use Rattle.plaintokens.specs.PlainTokens.{plain_token, first_kind, first_byte}
use Rattle.plaintokens.specs.PlainText.{spelled, plain_tokens_from}

-- at the end of the text, or not
pick : {A : Type 0} (n : ℕ) → (n ≡ 20 → A) → ((n ≡ 20 → ⊥) → A) → A
pick {A} n ended more = go (eqb n 20) refl
  where
    go : (b : Bool) → eqb n 20 ≡ b → A
    go true e = ended (eqb-true n 20 e)
    go false e = more (eqb-false n 20 e)

-- other tokens than `<>` are plain
plain_already : (t : Token) → (token_number t ≡ 15 → ⊥) → plain_token t ≡ t
unfolding plain_token plain_sign token_number sign_number
plain_already (name b) n = refl
plain_already (variable b) n = refl
plain_already (string b) n = refl
plain_already (number k) n = refl
plain_already (comparison (sign c)) n = refl
plain_already (comparison <>) n = absurd (n refl)
plain_already (symbol s) n = refl
plain_already (stray b) n = refl

-- a list of one
alone : (b : Bytes) → length b ≡ 1 → get_or b 0 0 ∷ [] ≡ b
alone [] l = absurd (let z : ⊥ = omega arith in z)
alone (c ∷ []) l = refl
alone (c ∷ d ∷ b) l = absurd (let z : ⊥ = omega arith in z)

-- ---- the token at a place of a text

module _ (text : Bytes) (at : ℕ) (t : TokenRead) (et : t ≡ token_read false text at) where
  abbrev here : Token
  here = token_by t.kind (part text t.place)

  pub more : (t.kind ≡ 20 → ⊥) → plain_tokens_from text at ≡ here ∷ plain_tokens_from text (next_of t)
  unfolding unplaced
  more n = ap unplaced (placed_more false text at t et n)

  pub none_left : t.kind ≡ 20 → plain_tokens_from text at ≡ []
  unfolding unplaced
  none_left e = ap unplaced (placed_end false text at t et e)

  real : (t.kind ≡ 20 → ⊥) → is_end (next_token true text at).kind ≡ false
  real n = ne_eqb (kind_number (next_token true text at).kind) 20 (λ q. n (rw et q))

  pub some_bytes : (t.kind ≡ 20 → ⊥) → 1 ≤ t.place.len
  some_bytes n = rw et (not_empty true text at (real n))

  -- its bytes are those of the text, also where a byte is stray
  stray_length : (t.kind ≡ 20 → ⊥) → kind_at t.kind ≡ Stray → length (part text t.place) ≡ 1
  stray_length n q =
      let k : (next_token true text at).kind ≡ Stray = inv (kind_at_number (next_token true text at).kind) ∙ rw et at q in
      part_length false text at t et ∙ rw et ((next_found true text at (real n)).longest.stray k)

  bytes_here : (t.kind ≡ 20 → ⊥) → token_bytes here ≡ part text t.place
  unfolding token_of token_bytes
  bytes_here n = go (is_stray (kind_at t.kind)) refl
    where
      go : (b : Bool) → is_stray (kind_at t.kind) ≡ b → token_bytes here ≡ part text t.place
      go true q = let z = is_stray_lem (kind_at t.kind) q in rw z (alone (part text t.place) (stray_length n z))
      go false q = let k = spelled_here false text at t et n in (token_says (kind_at t.kind) (part text t.place) (rw k at (spells (part text t.place) (ap is_stray k ∙ q)))).0

  pub kind_first : first_kind (plain_tokens_from text at) ≡ t.kind
  unfolding first_kind
  kind_first = pick t.kind (λ e. rw (none_left e) (inv e)) (λ n. rw (more n) (number_here false text at t et n))

  pub byte_first : first_byte (plain_tokens_from text at) ≡ get_or text t.place.start 0
  unfolding first_byte
  byte_first = pick t.kind (λ e. rw (none_left e, ← (end_here false text at t et e)) (inv (get_or-eq_default text 0 (omega arith)))) (λ n. rw (more n, bytes_here n) (first_of t.place.start t.place.len (some_bytes n)))
    where
      first_of : (start len : ℕ) → 1 ≤ len → get_or (take len (drop start text)) 0 0 ≡ get_or text start 0
      first_of start len h = get_or-take len (drop start text) 0 0 (omega arith) ∙ get_or-drop start text 0 0 ∙ rw (add-zero start)

  pub written_here : (t.kind ≡ 20 → ⊥) → token_bytes (plain_token here) ≡ spelled text t
  unfolding token_of plain_token plain_sign token_bytes sign_bytes comparison_bytes
  written_here n = go (eqb t.kind 15) refl
    where
      go : (b : Bool) → eqb t.kind 15 ≡ b → token_bytes (plain_token here) ≡ cond b (33 ∷ 61 ∷ []) (part text t.place)
      go true e = let z : t.kind ≡ 15 = eqb-true t.kind 15 e in rw z
      go false e = rw (plain_already here (λ z. eqb-false t.kind 15 e (inv (number_here false text at t et n) ∙ z))) (bytes_here n)
