-- `with_facts` meets its contract: its ways are those of the stages. Assumes nothing.
use mathlib.Core.Path.{◌≡◌, sym, ◌∙◌}
use mathlib.Core.Bool.{Bool, true, false, true≢false}
use mathlib.Core.Logic.{◌⊎◌, inl, inr}
use Prim.Native.Nat.{ℕ, ◌≤◌, ◌<◌}
use Rattle.promise.specs.Cases.{most_tested}
use Rattle.candidate.proofs.WithFacts.{by_clash, by_room, by_subsets, by_stages, heads_inside, settling}
use native.Mathlib.Omega.{arith}
use borrow.Author.Rules.{rules}
use Rattle.candidate.proofs.with_facts.Goals as goal

-- behind 12: the facts are few, or no rule has several heads
few : (several : Bool) (facts : ℕ) → (several ≡ true × facts ≤ most_tested) ⊎ (several ≡ false) → several ≡ true → facts ≤ most_tested
few several facts (inl w) t = w.1
few several facts (inr one) t = absurd (true≢false (sym t ∙ one))

pub returns-in-Some : goal.returns-in-Some
returns-in-Some c = λ line P I s clash of. by_clash _ _ _ _ _ _ clash P I s line of _ _ c.in-Some.is _ (search rules)

pub returns-then-places-counts : goal.returns-then-places-counts
returns-then-places-counts c = λ line P I s clash of. by_room _ _ _ _ _ _ clash P I s line of _ (search rules) c.if-places-counts.true _ (search rules)

pub several_heads-several-requires : goal.several_heads-several-requires
several_heads-several-requires c =
    let inside = heads_inside _ _ _ _ _ _ c.requires in
    (inside.0, omega (arith, inside.1))

pub returns-then-counts-gt-MOST_TESTED_FACTS : goal.returns-then-counts-gt-MOST_TESTED_FACTS
returns-then-counts-gt-MOST_TESTED_FACTS c =
    λ line P I s clash of. by_subsets _ _ _ _ _ _ clash P I s line of _ c.in_default.not-Some c.if-places-counts.false _ c.several_heads-several.ensures c.if-several.true (let many : most_tested < c.args.counts.facts = omega (arith, c.if-counts-gt-MOST_TESTED_FACTS.true) in many) _ c.of_fault-then-counts-gt-MOST_TESTED_FACTS.ensures

pub settled-requires : goal.settled-requires
settled-requires c =
    settling _ _ _ _ _ _ _ c.requires c.in_default.not-Some c.if-places-counts.false c.several_heads-several.ensures (few _ _ c.else-several.either)

pub returns : goal.returns
returns c =
    λ line P I s clash of. by_stages _ _ _ _ _ _ clash P I s line of _ c.in_default.not-Some c.if-places-counts.false _ c.several_heads-several.ensures (few _ _ c.else-several.either) _ _ (c.settled.ensures P I s)
