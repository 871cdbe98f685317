-- What may stand behind a token so that it ends there: no letter, digit or `_` behind a word, neither `=` nor `>` behind a comparison; anything
-- behind a string.
use mathlib.Core.Path.{◌≡◌, refl, sym as inv, ap, ◌∙◌}
use mathlib.Core.Bool.{Bool, true, false, cond, ◌&&◌, ◌||◌, and-false, true≢false}
use mathlib.Core.List.{List, [], ◌∷◌, ◌++◌, append_assoc}
use Prim.Native.Nat.{ℕ, suc, ◌+◌}
use native.Mathlib.Omega.{arith}
use lib.Dec.{eqb}
use lib.ListN.{length, length-append}
use borrow.Author.Tests.{eqb-true, ne_eqb}
use Rattle.lexis.specs.declared.class.Class.{Class}
use Rattle.lexis.specs.declared.class.Class.TheVariants.{Lower, Upper, Digit, Other}
use Rattle.lexis.specs.declared.run.Run.{Run}
use Rattle.lexis.specs.declared.run.Run.TheVariants.{Word, Digits}
use Rattle.lexis.specs.declared.kind.Kind.TheVariants.{Stray}
use Rattle.lexis.specs.Class.{class_of, is_word_class}
use Rattle.lexis.specs.Run.{goes_on}
use Rattle.lexis.specs.Spelling.{single_kind, pair_kind, name_kind, number_kind, kind_from, kind_of}
use Rattle.texts.specs.Prefix.{every}
use Rattle.tokens.specs.Spells.{Starts}
use Rattle.lexis.specs.Strings.{quote, Quotable, quoted}
use Rattle.lexis.proofs.Strings.{string_kind_lem, quotable_closing, between_quoted, string_quotable}
use Rattle.meaning.specs.Domain.{equal, unequal, less, at_most, greater, at_least}
use Rattle.meaning.specs.Rules.{Bytes}
use Rattle.grammar.specs.Tokens.{sign, <>, underscore, not, minus, opening, closing, comma, dot, :-, plus, times, bar, Token, name, variable, string, number, comparison, symbol, stray}
use Rattle.grammar.specs.Writing.{symbol_bytes, comparison_bytes, sign_bytes, token_bytes, is_word_symbol, is_word, is_comparison, run_together, blank, written}
use Rattle.grammar.proofs.Plainer.{All}
use Rattle.plainform.proofs.Digits.{number_spelled}
use Rattle.plainform.proofs.Proper.{kind_for, Proper}

-- ---- the byte behind a token

abbrev NoMark : ℕ → Type 0
NoMark c = (eqb c 61 ≡ false) × (eqb c 62 ≡ false)

pub record Behind (t : Token) (c : ℕ) : Type 0 where
  pub word : is_word t ≡ true → class_of c ≡ Other
  pub comparison : is_comparison t ≡ true → NoMark c

-- one byte of another sort more, and not all go on
not_every : (p : ℕ → Bool) (c : ℕ) → p c ≡ false → (b : Bytes) → every p (b ++ c ∷ []) ≡ false
unfolding every
not_every p c e [] = rw e
not_every p c e (d ∷ b) = rw (not_every p c e b) (and-false (p d))

-- where the rest of a token does not go on the run, it is none
run_ends : (class : Class) (run : Run) → ((d : ℕ) (r : Bytes) → every (goes_on run) r ≡ false → kind_from class d r ≡ Stray) → (c : ℕ) → goes_on run c ≡ false → (b : Bytes) → Starts class run b → kind_of (b ++ c ∷ []) ≡ Stray
unfolding kind_of
run_ends class run h c e [] s = absurd (let z : ⊥ = omega (arith, s.some) in z)
run_ends class run h c e (d ∷ b) s = rw s.first (h d (b ++ c ∷ []) (not_every (goes_on run) c e b))

no_number : (z : Bool) (r : Bytes) → every (goes_on Digits) r ≡ false → number_kind z r ≡ Stray
unfolding every
no_number true [] e = absurd (true≢false e)
no_number true (d ∷ r) e = refl
no_number false r e = rw e

-- one byte more behind its closing quote, and it is no string
string_ends : (b : Bytes) → Proper (string b) → (c : ℕ) → kind_of (token_bytes (string b) ++ c ∷ []) ≡ Stray
unfolding kind_for token_bytes kind_of class_of
string_ends b s c =
    let q : Quotable b = rw (between_quoted b) at (string_quotable (quoted b) s) in
    let n : length ((b ++ quote ∷ []) ++ c ∷ []) ≡ length b + 2 = simp length-append (omega arith) in
    string_kind_lem ((b ++ quote ∷ []) ++ c ∷ []) (omega arith) ∙ rw (append_assoc b (quote ∷ []) (c ∷ []), quotable_closing q (c ∷ []), ne_eqb (suc (length b)) (length (b ++ quote ∷ c ∷ [])) (λ e. omega (arith, length-append b (quote ∷ c ∷ []))))

pub ends : (t : Token) → Proper t → (c : ℕ) → Behind t c → kind_of (token_bytes t ++ c ∷ []) ≡ Stray
unfolding kind_for is_word is_word_symbol is_comparison token_bytes symbol_bytes sign_bytes comparison_bytes kind_of class_of single_kind pair_kind name_kind every
ends (name b) s c h = run_ends Lower Word (λ d r e. rw e) c (rw (h.word refl)) b s.0
ends (variable b) s c h = run_ends Upper Word (λ d r e. rw e) c (rw (h.word refl)) b s
ends (string b) s c h = string_ends b s c
ends (number n) s c h = run_ends Digit Digits (λ d r e. no_number (eqb d 48) r e) c (rw (h.word refl)) _ (number_spelled n).0
ends (comparison (sign equal)) s c h = refl
ends (comparison (sign unequal)) s c h = refl
ends (comparison (sign less)) s c h = let n = h.comparison refl in rw (n.0, n.1)
ends (comparison (sign at_most)) s c h = refl
ends (comparison (sign greater)) s c h = rw (h.comparison refl).0
ends (comparison (sign at_least)) s c h = refl
ends (comparison <>) s c h = refl
ends (symbol underscore) s c h = refl
ends (symbol not) s c h = rw (h.word refl)
ends (symbol minus) s c h = refl
ends (symbol opening) s c h = refl
ends (symbol closing) s c h = refl
ends (symbol comma) s c h = refl
ends (symbol dot) s c h = refl
ends (symbol :-) s c h = refl
ends (symbol plus) s c h = refl
ends (symbol times) s c h = refl
ends (symbol bar) s c h = refl
ends (stray b) s c h = absurd s

-- ---- the first byte of what is written behind a token

-- P holds of the first byte, if there is one
abbrev pub First : (ℕ → Type 0) → Bytes → Type 0
First P [] = Unit {0}
First P (c ∷ b) = P c

abbrev OtherFirst : Bytes → Type 0
OtherFirst b = First (λ c. class_of c ≡ Other) b

-- a token that is no word starts with no letter, digit or `_`
mark_first : (u : Token) → Proper u → is_word u ≡ false → (r : Bytes) → OtherFirst (token_bytes u ++ r)
unfolding kind_for is_word is_word_symbol token_bytes symbol_bytes sign_bytes comparison_bytes class_of
mark_first (name b) s h r = absurd (true≢false h)
mark_first (variable b) s h r = absurd (true≢false h)
mark_first (string b) s h r = refl
mark_first (number n) s h r = absurd (true≢false h)
mark_first (comparison (sign equal)) s h r = refl
mark_first (comparison (sign unequal)) s h r = refl
mark_first (comparison (sign less)) s h r = refl
mark_first (comparison (sign at_most)) s h r = refl
mark_first (comparison (sign greater)) s h r = refl
mark_first (comparison (sign at_least)) s h r = refl
mark_first (comparison <>) s h r = refl
mark_first (symbol underscore) s h r = absurd (true≢false h)
mark_first (symbol not) s h r = absurd (true≢false h)
mark_first (symbol minus) s h r = refl
mark_first (symbol opening) s h r = refl
mark_first (symbol closing) s h r = refl
mark_first (symbol comma) s h r = refl
mark_first (symbol dot) s h r = refl
mark_first (symbol :-) s h r = refl
mark_first (symbol plus) s h r = refl
mark_first (symbol times) s h r = refl
mark_first (symbol bar) s h r = refl
mark_first (stray b) s h r = absurd s

-- a letter or a digit is no mark
no_mark : (class : Class) (run : Run) → is_word_class class ≡ true → (b : Bytes) → Starts class run b → (r : Bytes) → First NoMark (b ++ r)
unfolding class_of
no_mark class run w [] s r = absurd (let z : ⊥ = omega (arith, s.some) in z)
no_mark class run w (c ∷ b) s r = (go 61 refl (eqb c 61) refl, go 62 refl (eqb c 62) refl)
  where
    go : (n : ℕ) → class_of n ≡ Other → (t : Bool) → eqb c n ≡ t → eqb c n ≡ false
    go n o true e = absurd (true≢false (inv w ∙ ap is_word_class (inv s.first ∙ ap class_of (eqb-true c n e) ∙ o)))
    go n o false e = e

-- a token that is no comparison starts with neither `=` nor `>`
plain_first : (u : Token) → Proper u → is_comparison u ≡ false → (r : Bytes) → First NoMark (token_bytes u ++ r)
unfolding kind_for is_comparison token_bytes symbol_bytes
plain_first (name b) s h r = no_mark Lower Word refl b s.0 r
plain_first (variable b) s h r = no_mark Upper Word refl b s r
plain_first (string b) s h r = (refl, refl)
plain_first (number n) s h r = no_mark Digit Digits refl _ (number_spelled n).0 r
plain_first (comparison q) s h r = absurd (true≢false h)
plain_first (symbol underscore) s h r = (refl, refl)
plain_first (symbol not) s h r = (refl, refl)
plain_first (symbol minus) s h r = (refl, refl)
plain_first (symbol opening) s h r = (refl, refl)
plain_first (symbol closing) s h r = (refl, refl)
plain_first (symbol comma) s h r = (refl, refl)
plain_first (symbol dot) s h r = (refl, refl)
plain_first (symbol :-) s h r = (refl, refl)
plain_first (symbol plus) s h r = (refl, refl)
plain_first (symbol times) s h r = (refl, refl)
plain_first (symbol bar) s h r = (refl, refl)
plain_first (stray b) s h r = absurd s

-- two tokens that do not run together
apart : (w w' c c' : Bool) → (w && w' || c && c') ≡ false → (w ≡ true → w' ≡ false) × (c ≡ true → c' ≡ false)
apart true true c c' h = absurd (true≢false h)
apart true false true true h = absurd (true≢false h)
apart true false true false h = ((λ e. refl), λ e. refl)
apart true false false c' h = ((λ e. refl), λ e. absurd (true≢false (inv e)))
apart false w' true true h = absurd (true≢false h)
apart false w' true false h = ((λ e. absurd (true≢false (inv e))), λ e. refl)
apart false w' false c' h = ((λ e. absurd (true≢false (inv e))), λ e. absurd (true≢false (inv e)))

both_first : (t : Token) (b : Bytes) → (is_word t ≡ true → OtherFirst b) → (is_comparison t ≡ true → First NoMark b) → First (Behind t) b
both_first t [] h g = tt
both_first t (c ∷ b) h g = record { word = h; comparison = g }

-- what is written behind a token may stand there
written_behind : (t : Token) (ts : List Token) → All Proper ts → First (Behind t) (blank t ts ++ written ts)
unfolding blank written run_together class_of
written_behind t [] h = tt
written_behind t (u ∷ us) h = go (run_together t u) refl
  where
    go : (r : Bool) → run_together t u ≡ r → First (Behind t) (cond r (32 ∷ []) [] ++ written (u ∷ us))
    go true e = record { word = λ w. refl; comparison = λ q. (refl, refl) }
    go false e =
        let a = apart (is_word t) (is_word u) (is_comparison t) (is_comparison u) e in
        rw (append_assoc (token_bytes u) (blank u us) (written us)) (both_first t (token_bytes u ++ (blank u us ++ written us)) (λ w. mark_first u h.0 (a.0 w) (blank u us ++ written us)) (λ q. plain_first u h.0 (a.1 q) (blank u us ++ written us)))

-- so it ends the token
pub written_ends : (t : Token) (ts : List Token) → Proper t → All Proper ts → First (λ c. kind_of (token_bytes t ++ c ∷ []) ≡ Stray) (blank t ts ++ written ts)
written_ends t ts s h = go (blank t ts ++ written ts) (written_behind t ts h)
  where
    go : (b : Bytes) → First (Behind t) b → First (λ c. kind_of (token_bytes t ++ c ∷ []) ≡ Stray) b
    go [] f = tt
    go (c ∷ b) f = ends t s c f
