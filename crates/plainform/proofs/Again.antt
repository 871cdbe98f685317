-- The tokens of written tokens are those tokens again.
use mathlib.Core.Path.{◌≡◌, refl, sym as inv, ◌∙◌}
use mathlib.Core.Bool.{Bool, true, false}
use mathlib.Core.List.{List, [], ◌∷◌, ◌++◌, append_assoc}
use Prim.Native.Nat.{ℕ, suc, ◌+◌, ◌<◌}
use native.Mathlib.Nat.{add-zero}
use native.Mathlib.Numerals.{add-one}
use native.Mathlib.Omega.{arith}
use lib.ListN.{length, take, drop, length-append}
use lib.Seq.{take-append_seam, drop-append_seam, take-append-add, drop-drop}
use Rattle.lexis.specs.declared.kind.Kind.{Kind}
use Rattle.lexis.specs.declared.kind.Kind.TheVariants.{Stray}
use Rattle.lexis.specs.Run.{is_blank}
use Rattle.tokens.specs.Gap.{gap}
use Rattle.lexis.specs.Kind.{is_end, is_stray}
use Rattle.lexis.specs.Spelling.{kind_of}
use Rattle.tokens.specs.Spells.{Spells}
use Rattle.tokens.specs.Longest.{Longest}
use Rattle.tokens.specs.Token.{placed, token_at, next_token}
use Rattle.tokens.specs.Tokens.{tokens_from}
use Rattle.lexis.proofs.KindNumber.{is_end_lem, is_stray_lem}
use Rattle.tokens.proofs.Spelled.{kind_of_spelled}
use Rattle.tokens.proofs.LongestMatch.{longest_by_next}
use Rattle.tokens.proofs.Gaps.{gap_blank}
use Rattle.tokens.proofs.Next.{next_here}
use Rattle.tokens.proofs.TokenList.{tokens_end, tokens_more}
use Rattle.reading.specs.Reading.{unplaced}
use Rattle.meaning.specs.Rules.{Bytes}
use Rattle.grammar.specs.Tokens.{Token}
use Rattle.grammar.specs.Writing.{token_bytes, run_together, blank, written}
use Rattle.grammar.proofs.Plainer.{All}
use Rattle.syntax.specs.Text.{token_of, placed_from}
use Rattle.plainform.proofs.Proper.{kind_for, Proper, token_again}
use Rattle.plainform.proofs.Ends.{First, written_ends}

-- ---- a token that is spelled, and behind which it ends, is the longest match

not_stray : (kind : Kind) (b : Bytes) → Spells kind b → is_stray kind ≡ false
not_stray kind b s = go (is_stray kind) refl
  where
    go : (t : Bool) → is_stray kind ≡ t → is_stray kind ≡ false
    go true e = absurd (rw (is_stray_lem kind e) at s)
    go false e = e

not_end : (kind : Kind) (b : Bytes) → Spells kind b → is_end kind ≡ false
not_end kind b s = go (is_end kind) refl
  where
    go : (t : Bool) → is_end kind ≡ t → is_end kind ≡ false
    go true e = absurd (rw (is_end_lem kind e) at s)
    go false e = e

longest_before : (kind : Kind) (b r : Bytes) → Spells kind b → First (λ c. kind_of (b ++ c ∷ []) ≡ Stray) r → Longest (b ++ r) kind (length b)
longest_before kind b r s f = longest_by_next (b ++ r) kind (length b) (not_stray kind b s) (simp length-append (omega arith)) (rw (take-append_seam b r) (kind_of_spelled kind b s)) (λ h. next r f (simp length-append at h))
  where
    next : (r : Bytes) → First (λ c. kind_of (b ++ c ∷ []) ≡ Stray) r → length b < length b + length r → kind_of (take (suc (length b)) (b ++ r)) ≡ Stray
    next [] f h = absurd (let z : ⊥ = omega arith in z)
    next (c ∷ r) f h = rw (← (add-one (length b)), take-append-add b (c ∷ r) 1) f

-- ---- tokens from a place on

module _ (text : Bytes) where
  -- where the next token is the same, so are all
  same_tokens : (at at' : ℕ) → next_token true text at ≡ next_token true text at' → tokens_from true text at ≡ tokens_from true text at'
  same_tokens at at' e = go (is_end (next_token true text at).kind) refl
    where
      go : (t : Bool) → is_end (next_token true text at).kind ≡ t → tokens_from true text at ≡ tokens_from true text at'
      go true q = tokens_end true text at q ∙ inv (tokens_end true text at' (rw e at q))
      go false q = tokens_more true text at q ∙ rw e (inv (tokens_more true text at' (rw e at q)))

  behind_blank : (at : ℕ) (r : Bytes) → drop at text ≡ 32 ∷ r → tokens_from true text at ≡ tokens_from true text (at + 1)
  unfolding next_token is_blank
  behind_blank at r e =
      let f : drop (at + 1) text ≡ r = inv (drop-drop 1 at text) ∙ rw e in
      let z : at + suc (gap true r) ≡ at + 1 + gap true r = omega arith in
      same_tokens at (at + 1) (rw (e, f, gap_blank true 32 r refl, z))

  none : (at : ℕ) → drop at text ≡ [] → tokens_from true text at ≡ []
  unfolding next_token token_at gap
  none at e = tokens_end true text at (rw (e, add-zero at, e))

  one : (at : ℕ) (kind : Kind) (b r : Bytes) → drop at text ≡ b ++ r → Spells kind b → First (λ c. kind_of (b ++ c ∷ []) ≡ Stray) r → tokens_from true text at ≡ placed text kind at (length b) ∷ tokens_from true text (at + length b)
  one at kind b r e s f =
      let n = next_here true text at kind (length b) (not_stray kind b s) (rw e (longest_before kind b r s f)) in
      tokens_more true text at (rw n (not_end kind b s)) ∙ rw n

  -- a blank or none stands behind a token
  skipped : (t : Token) (ts : List Token) (at : ℕ) → drop at text ≡ blank t ts ++ written ts → ((at : ℕ) → drop at text ≡ written ts → unplaced (placed_from false text at) ≡ ts) → unplaced (placed_from false text at) ≡ ts
  unfolding blank
  skipped t [] at e again = again at e
  skipped t (u ∷ us) at e again = go (run_together t u) refl
    where
      go : (r : Bool) → run_together t u ≡ r → unplaced (placed_from false text at) ≡ u ∷ us
      go true q =
          let f : drop at text ≡ 32 ∷ written (u ∷ us) = rw q at e in
          rw (behind_blank at (written (u ∷ us)) f) (again (at + 1) (inv (drop-drop 1 at text) ∙ rw f))
      go false q = again at (rw q at e)

  pub tokens_again : (ts : List Token) (at : ℕ) → drop at text ≡ written ts → All Proper ts → unplaced (placed_from false text at) ≡ ts
  unfolding written unplaced
  tokens_again [] at e h = rw (none at e)
  tokens_again (t ∷ ts) at e h =
      let b = token_bytes t in
      let r = blank t ts ++ written ts in
      let s : drop at text ≡ b ++ r = e ∙ append_assoc b (blank t ts) (written ts) in
      let first : token_of (kind_for t) (take (length b) (drop at text)) ≡ t = rw (s, take-append_seam b r) (token_again t h.0) in
      let behind : drop (at + length b) text ≡ r = inv (drop-drop (length b) at text) ∙ rw s (drop-append_seam b r) in
      rw (one at (kind_for t) b r s h.0 (written_ends t ts h.0 h.1), first, skipped t ts (at + length b) behind (λ i q. tokens_again ts i q h.1))
