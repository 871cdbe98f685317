-- An answer by value is decided by what it says.
use mathlib.Core.Path.{◌≡◌, refl, sym, ap, ap₂, ◌∙◌}
use mathlib.Core.List.{List}
use Prim.Native.Nat.{ℕ, ◌≤◌}
use native.Mathlib.Decide.{dec_lt}
use native.Mathlib.Omega.{arith}
use lib.ListN.{length, get_or, take, length-take}
use lib.Seq.{get_or-take, ext_get_or}
use Rattle.grammar.specs.Sizes.{most_literals}
use Rattle.stages.specs.Parts.{Part}
use Rattle.derived_set.proofs.Keeping.{well_kept_decided}
use Rattle.fields.specs.declared.answer.Text.{Text}
use Rattle.fields.specs.declared.answer.Text.TheVariants.{Program, Output}
use Rattle.fields.specs.declared.answer.Part.{Part as PartValue}
use Rattle.fields.specs.declared.answer.Answer.{Answer}
use Rattle.fields.specs.declared.answer.Answer.TheVariants.{Refused, Accepted, Unsatisfied, Smaller, ClaimedNone, ClaimedUnknown}
use Rattle.fields.specs.Parts.{text_of, part_of}
use Rattle.fields.specs.Answers.{said, ZerosBehind, WholeSet, NothingElse}
use Rattle.fields.proofs.Kept.{members_decided}
use Rattle.fields.proofs.Said.{form_of}

-- ---- the part

text_decides : (t u : Text) → text_of t ≡ text_of u → t ≡ u
text_decides Program Program e = refl
text_decides Program Output e = absurd (let z : ◌≡◌ {A = ℕ} 0 1 = cc in omega arith)
text_decides Output Program e = absurd (let z : ◌≡◌ {A = ℕ} 0 1 = cc in omega arith)
text_decides Output Output e = refl

part_decides : (p q : PartValue) → part_of p ≡ part_of q → p ≡ q
part_decides p q h =
    let text : p.text ≡ q.text = text_decides p.text q.text (ap (λ (x : Part). x.text) h) in
    let place : p.place ≡ q.place = ap (λ (x : Part). x.place) h in
    let e : ◌≡◌ {A = PartValue} (record { text = p.text; place = p.place }) (record { text = q.text; place = q.place }) = cc in
    e

-- ---- the positions of a broken instance

module _ (m n : ℕ) (ps qs : List ℕ) (few : m ≤ most_literals) (few' : n ≤ most_literals) (room : length ps ≡ most_literals) (room' : length qs ≡ most_literals) (same : take m ps ≡ take n qs) where
  count_decided : m ≡ n
  count_decided = omega (arith, length-take m ps, length-take n qs, ap (λ (l : List ℕ). length l) same)

  positions_decided : ((i : ℕ) → m ≤ i → get_or ps i 0 ≡ 0) → ((i : ℕ) → n ≤ i → get_or qs i 0 ≡ 0) → ps ≡ qs
  positions_decided behind behind' =
      ext_get_or 0 ps qs (room ∙ sym room') (λ i l.
      elim (dec_lt i m) [
        | yes k ↦ sym (get_or-take m ps i 0 k) ∙ ap (λ (l : List ℕ). get_or l i 0) same ∙ get_or-take n qs i 0 (omega (arith, k, count_decided))
        | no k ↦ behind i (omega (arith, k)) ∙ sym (behind' i (omega (arith, k, count_decided)))
      ])

-- ---- the whole answer

pub same_answer : (a b : Answer) → NothingElse a → NothingElse b → said a ≡ said b → a ≡ b
same_answer (Refused n v) b p q e = let (w, is, part) = form_of b _ (sym e) in sym (is ∙ ap (Refused n) (part_decides w v part))
same_answer (Accepted n k) b p q e = sym (form_of b _ (sym e))
same_answer (Unsatisfied r count ps) b p q e =
    let (more, qs, is, taken) = form_of b _ (sym e) in
    let q' : ZerosBehind more qs = rw is at q in
    let count_is : more ≡ count = count_decided _ _ _ _ q'.few p.few q'.room p.room taken in
    sym (is ∙ ap₂ (Unsatisfied r) count_is (positions_decided _ _ _ _ q'.few p.few q'.room p.room taken q'.behind p.behind))
same_answer (Smaller s) b p q e =
    let (t, is, shown) = form_of b _ (sym e) in
    let q' : WholeSet t = rw is at q in
    sym (is ∙ ap Smaller (well_kept_decided t s (record { count = q'.words; fit = q'.bits }) (record { count = p.words; fit = p.bits }) q'.well_kept p.well_kept (members_decided t s shown)))
same_answer ClaimedNone b p q e = sym (form_of b _ (sym e))
same_answer ClaimedUnknown b p q e = sym (form_of b _ (sym e))
