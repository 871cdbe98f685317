-- The cache of pairs: empty, asked, and with a pair more.
use mathlib.Core.Path.{◌≡◌, refl, sym, ap, ap₂, ◌∙◌}
use mathlib.Core.Bool.{Bool, true, false, ◌||◌, or-true, or-false, true≢false}
use mathlib.Core.List.{List}
use Prim.Native.Nat.{ℕ, ◌+◌, ◌*◌, ◌<◌}
use native.Mathlib.Decide.{ℕ_discrete}
use native.Mathlib.Omega.{arith}
use lib.Dec.{lit<}
use lib.ListN.{length, get_or, set, replicate, length-set, length-replicate, get_or-replicate}
use lib.Seq.{get_or-set_same, get_or-set_other}
use Rattle.derived_set.specs.Members.{bit}
use Rattle.subsets.specs.Table.{ruled_out, refutes, RulesOut}
use Rattle.subsets.specs.Seen.{slots, seen_size, Seen, NoneSeen}
use Rattle.subsets.proofs.Refuting.{refutes_says}

-- no subset has the first fact and lacks it
ones_refute_none : (J : ℕ) → refutes 1 1 J ≡ true → ⊥
unfolding bit
ones_refute_none J r = let s = refutes_says 1 1 J r in true≢false (sym (s.0 0 (lit< tt) refl) ∙ s.1 0 (lit< tt) refl)

pub none_seen : NoneSeen (replicate seen_size 1)
none_seen table = record { room = length-replicate {A = ℕ} seen_size 1; out = λ k l J h r. absurd (ones_refute_none J (rw (one (k * 2) (omega arith), one (k * 2 + 1) (omega arith)) at r)) }
  where
    one : (i : ℕ) → i < seen_size → get_or {A = ℕ} (replicate seen_size 1) i 0 ≡ 1
    one i l = get_or-replicate seen_size i 1 0 l

module _ (seen table : List ℕ) (s : Seen seen table) (slot : ℕ) (inside : slot < slots) (body heads : ℕ) where
  -- a pair that stands in its slot has nothing more to rule out
  pub seen_again : get_or seen (slot * 2) 0 ≡ body → get_or seen (slot * 2 + 1) 0 ≡ heads → RulesOut body heads table table
  seen_again b h = record { long = refl; out = λ J l. go J l (refutes body heads J) refl }
    where
      go : (J : ℕ) → J < 64 * length table → (t : Bool) → refutes body heads J ≡ t → ruled_out table J ≡ (ruled_out table J || refutes body heads J)
      go J l true e = rw e (s.out slot inside J l (ap₂ (λ (x y : ℕ). refutes x y J) b h ∙ e) ∙ sym (or-true (ruled_out table J)))
      go J l false e = rw e (sym (or-false (ruled_out table J)))

  -- a pair that has been ruled out stands in its slot
  pub seen_more : (table' : List ℕ) → RulesOut body heads table table' → Seen (set (set seen (slot * 2) body) (slot * 2 + 1) heads) table'
  seen_more table' ruled = record { room = simp length-set s.room; out = λ k l J h r. elim (ℕ_discrete k slot) [ yes e ↦ here k J (omega (arith, ruled.long)) e r | no n ↦ other k l J (omega (arith, ruled.long)) n r ] }
    where
      after : List ℕ
      after = set (set seen (slot * 2) body) (slot * 2 + 1) heads

      here : (k J : ℕ) → J < 64 * length table → k ≡ slot → refutes (get_or after (k * 2) 0) (get_or after (k * 2 + 1) 0) J ≡ true → ruled_out table' J ≡ true
      here k J h e r =
          let is_body : get_or after (slot * 2) 0 ≡ body = get_or-set_other (set seen (slot * 2) body) (slot * 2 + 1) (slot * 2) heads 0 (λ f. omega arith) ∙ get_or-set_same seen (slot * 2) body 0 (omega (arith, s.room)) in
          let are_heads : get_or after (slot * 2 + 1) 0 ≡ heads = get_or-set_same (set seen (slot * 2) body) (slot * 2 + 1) heads 0 (simp length-set (omega (arith, s.room))) in
          ruled.out J h ∙ ap (λ (b : Bool). ruled_out table J || b) (rw (e, is_body, are_heads) at r) ∙ or-true (ruled_out table J)

      other : (k : ℕ) → k < slots → (J : ℕ) → J < 64 * length table → (k ≡ slot → ⊥) → refutes (get_or after (k * 2) 0) (get_or after (k * 2 + 1) 0) J ≡ true → ruled_out table' J ≡ true
      other k l J h n r = ruled.out J h ∙ ap (λ (b : Bool). b || refutes body heads J) (s.out k l J h (ap₂ (λ (x y : ℕ). refutes x y J) (sym (kept (k * 2) (λ f. n (omega arith)) (λ f. omega arith))) (sym (kept (k * 2 + 1) (λ f. omega arith) (λ f. n (omega arith)))) ∙ r))
        where
          kept : (i : ℕ) → (i ≡ slot * 2 → ⊥) → (i ≡ slot * 2 + 1 → ⊥) → get_or after i 0 ≡ get_or seen i 0
          kept i a b = get_or-set_other (set seen (slot * 2) body) (slot * 2 + 1) i heads 0 b ∙ get_or-set_other seen (slot * 2) i body 0 a
