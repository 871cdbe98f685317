-- What is written of a token, by the tests of the code.
use mathlib.Core.Path.{◌≡◌, sym as inv, ap, ◌∙◌}
use mathlib.Core.Bool.{Bool, true, false, cond}
use mathlib.Core.List.{[], ◌∷◌}
use Prim.Native.Nat.{ℕ}
use borrow.Author.Tests.{eq-eqb, ne_eqb}
use Rattle.texts.specs.Parts.{part}
use Rattle.meaning.specs.Rules.{Bytes}
use Rattle.syntax.specs.declared.token.TokenRead.{TokenRead}
use Rattle.plaintokens.specs.Neighbours.{runs_together, blank_between}
use Rattle.plaintokens.specs.PlainText.{spelled, unless}

-- a blank before it, or none
module _ (last here : ℕ) (r : Bool) (e : r ≡ runs_together last here) where
  pub one_blank : r ≡ true → blank_between last here ≡ 32 ∷ []
  one_blank t = ap (λ (b : Bool). cond b (32 ∷ []) []) (inv e ∙ t)

  pub no_blank : r ≡ false → blank_between last here ≡ []
  no_blank t = ap (λ (b : Bool). cond b (32 ∷ []) []) (inv e ∙ t)

-- `!=`, or what stands in the text
module _ (text : Bytes) (t : TokenRead) where
  pub other_sign : t.kind ≡ 15 → spelled text t ≡ 33 ∷ 61 ∷ []
  other_sign e = ap (λ (b : Bool). cond b (33 ∷ 61 ∷ []) (part text t.place)) (eq-eqb t.kind 15 e)

  pub as_it_stands : (t.kind ≡ 15 → ⊥) → spelled text t ≡ part text t.place
  as_it_stands n = ap (λ (b : Bool). cond b (33 ∷ 61 ∷ []) (part text t.place)) (ne_eqb t.kind 15 n)

-- nothing, or all of it
module _ (bytes : Bytes) (out : Bool) where
  pub nothing_of : out ≡ true → unless out bytes ≡ []
  nothing_of e = ap (λ (o : Bool). unless o bytes) e

  pub all_of : out ≡ false → unless out bytes ≡ bytes
  all_of e = ap (λ (o : Bool). unless o bytes) e
