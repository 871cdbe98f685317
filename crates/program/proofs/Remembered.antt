-- What is remembered of the tokens before a place: the first case of refusal 5 among them, or that there is none. It is kept over a rule.
use mathlib.Core.Path.{◌≡◌, refl, sym as inv, ap, ◌∙◌}
use mathlib.Core.Bool.{Bool, true, false, cond, true≢false}
use mathlib.Core.Logic.{◌⊎◌, inl, inr}
use mathlib.Core.Option.{some}
use mathlib.Core.List.{List, [], ◌∷◌, ◌++◌, append_assoc}
use Prim.Native.Nat.{ℕ, zero, suc, ◌+◌, ◌≤◌, ◌<◌}
use native.Mathlib.Omega.{arith}
use native.Mathlib.Nat.{add-zero}
use lib.Dec.{ltb}
use lib.ListN.{length, length-append, get_or, get_elem?}
use borrow.Author.Tests.{ltb-true, ltb-false}
use Rattle.std.specs.Prelude.{Option, Some, None}
use Rattle.std.specs.Option.{option_or}
use Rattle.texts.specs.declared.place.Place.{Place}
use Rattle.reading.specs.Reading.{unplaced, seen}
use Rattle.reading.specs.Faults.{place_at}
use Rattle.reading.proofs.Lists.{none_some, some_inj, unplaced_append, seen_append}
use Rattle.reading.proofs.Theorems.{place_here}
use Rattle.meaning.specs.Values.{Value}
use Rattle.meaning.specs.Rules.{Rule}
use Rattle.meaning.specs.Safety.{bound}
use Rattle.meaning.proofs.Safety.{scan_exact}
use Rattle.grammar.specs.Sizes.{programs}
use Rattle.texts.specs.Place.{text_start}
use Rattle.syntax.specs.Ahead.{ends_rule, firsts}
use Rattle.rulesafety.specs.Unbound.{FirstUnbound, found, all_bound}
use Rattle.program.specs.Unbound.{Tokens, dots, met_behind, Unbound}
use Rattle.program.proofs.Segments.{FirstAt, first_of, number_of_first, first_order, standing, first_standing, to_dot, before_or_behind, first_inside}

-- ---- lists

pub dots_append : (l m : Tokens) → dots (l ++ m) ≡ dots l + dots m
unfolding dots
dots_append [] m = omega arith
dots_append (t ∷ l) m = go (ends_rule t.token) (dots_append l m)
  where
    go : (b : Bool) → dots (l ++ m) ≡ dots l + dots m → cond b (suc (dots (l ++ m))) (dots (l ++ m)) ≡ cond b (suc (dots l)) (dots l) + dots m
    go true e = omega arith
    go false e = e

at_length : {A : Type 0} (l : List A) (a : A) (m : List A) → get_elem? (l ++ a ∷ m) (length l) ≡ some a
at_length [] a m = refl
at_length (b ∷ l) a m = at_length l a m

pub same_cons : {A : Type 0} {a b : A} {l m : List A} → a ≡ b → l ≡ m → a ∷ l ≡ b ∷ m
same_cons {A} {a} {b} {l} {m} e f = cc

-- a list that reaches as far as another, before the same whole, has it at its start
behind : {A : Type 0} (l m : List A) (l' m' : List A) → l ++ m ≡ l' ++ m' → length l ≤ length l' → (k : List A) × (l' ≡ l ++ k) × (k ++ m' ≡ m)
behind [] m l' m' e h = (l', refl, inv e)
behind (a ∷ l) m [] m' e h = absurd (omega arith)
behind {A} (a ∷ l) m (b ∷ l') m' e h = go (behind l m l' m')
  where
    first : a ≡ b
    first = cc

    others : l ++ m ≡ l' ++ m'
    others = cc

    go : (l ++ m ≡ l' ++ m' → length l ≤ length l' → (k : List A) × (l' ≡ l ++ k) × (k ++ m' ≡ m)) → (k : List A) × (b ∷ l' ≡ a ∷ l ++ k) × (k ++ m' ≡ m)
    go rec = let r = rec others (omega arith) in (r.0, same_cons (inv first) r.1, r.2)

-- ---- what is remembered

pub data Remembered (rules : List (Rule Value)) (ts : Tokens) (end : Place) (n : ℕ) (u : Option Place) : Type 0 where
  first_case : (i : ℕ) → Unbound rules ts i 5 → ((j m : ℕ) → Unbound rules ts j m → i ≤ j) → u ≡ Some (place_at end ts i) → Remembered rules ts end n u
  no_case : ((j m : ℕ) → Unbound rules ts j m → n ≤ j) → u ≡ None → Remembered rules ts end n u

pub remembered_start : (rules : List (Rule Value)) (ts : Tokens) (end : Place) → Remembered rules ts end 0 None
remembered_start rules ts end = no_case (λ j m x. omega arith) refl

-- a rule behind the tokens `before`, which are those of the rules rs
module _ (rs more : List (Rule Value)) (rule : Rule Value) (before ahead : Tokens) (new : met_behind before ≡ []) (ended : dots before ≡ length rs) where
  abbrev rules : List (Rule Value)
  rules = rs ++ rule ∷ more

  abbrev ts : Tokens
  ts = before ++ ahead

  seen_on : (l : Tokens) → met_behind (before ++ l) ≡ met_behind l
  seen_on l = ap (seen programs []) (unplaced_append before l) ∙ seen_append programs [] (unplaced before) (unplaced l) ∙ ap (λ vs. seen programs vs (unplaced l)) new

  -- a variable that is not bound is a case
  pub case_of : (i k : ℕ) (p : Place) → FirstAt [] ahead i k p → bound rule k ≡ false → Unbound rules ts (length before + i) 5
  case_of i k p f u =
      let s = standing [] ahead i k p f in
      record {
        before = before ++ s.before;
        token = s.token;
        after = s.after;
        here = append_assoc before s.before (s.token ∷ s.after) ∙ ap (λ l. before ++ l) s.here;
        position = length-append before s.before ∙ ap (λ n. length before + n) s.position;
        number = refl;
        first = rw (seen_on s.before) s.first;
        rule = rule;
        its_rule = ap (get_elem? rules) (dots_append before s.before ∙ rw (ended, s.no_dot) (add-zero (length rs))) ∙ at_length rs rule more;
        unbound = λ b. true≢false (inv ((scan_exact rule k).1 (rw (seen_on s.before, s.number) at b)) ∙ u);
      }

  place_of_case : (end : Place) (i k : ℕ) (p : Place) → FirstAt [] ahead i k p → place_at end ts (length before + i) ≡ p
  place_of_case end i k p f =
      let s = standing [] ahead i k p f in
      let e : before ++ ahead ≡ (before ++ s.before) ++ s.token ∷ s.after = ap (λ l. before ++ l) (inv s.here) ∙ inv (append_assoc before s.before (s.token ∷ s.after)) in
      let n : length before + i ≡ length (before ++ s.before) = inv (length-append before s.before ∙ ap (λ n. length before + n) s.position) in
      rw (e, n) (place_here end (before ++ s.before) s.token s.after ∙ s.place)

  -- a case at or behind this rule's first token is one of its variables, or stands behind its dot
  pub record InRule (j : ℕ) : Type 0 where
    pub position : ℕ
    pub variable : ℕ
    pub place : Place
    pub first : FirstAt [] ahead position variable place
    pub same : j ≡ length before + position
    pub unbound : bound rule variable ≡ false

  in_rule : (j m : ℕ) → Unbound rules ts j m → length before ≤ j → InRule j ⊎ (length before + length (to_dot ahead) ≤ j)
  in_rule j m x h = go (before_or_behind b.0 x.token x.after)
    where
      b : (k : Tokens) × (x.before ≡ before ++ k) × (k ++ x.token ∷ x.after ≡ ahead)
      b = behind before ahead x.before (x.token ∷ x.after) (inv x.here) (omega (arith, x.position))

      long : j ≡ length before + length b.0
      long = inv x.position ∙ ap length b.1 ∙ length-append before b.0

      its_rule : dots b.0 ≡ 0 → x.rule ≡ rule
      its_rule d = some_inj (inv x.its_rule ∙ ap (get_elem? rules) (ap dots b.1 ∙ dots_append before b.0 ∙ rw (ended, d) (add-zero (length rs))) ∙ at_length rs rule more)

      number : dots b.0 ≡ 0 → (t : Bool) → bound rule (length (met_behind b.0)) ≡ t → bound rule (length (met_behind b.0)) ≡ false
      number d true e = absurd (x.unbound (rw (its_rule d, b.1, seen_on b.0) ((scan_exact rule (length (met_behind b.0))).0 e)))
      number d false e = e

      go : (dots b.0 ≡ 0) ⊎ (length (to_dot (b.0 ++ x.token ∷ x.after)) ≤ length b.0) → InRule j ⊎ (length before + length (to_dot ahead) ≤ j)
      go (inr l) = inr (omega (arith, long, ap (λ y. length (to_dot y)) b.2))
      go (inl d) = inl (record { position = length b.0; variable = length (met_behind b.0); place = x.token.place; first = rw b.2 at (first_standing [] b.0 x.token x.after d (rw (b.1, seen_on b.0) at x.first)); same = long; unbound = number d (bound rule (length (met_behind b.0))) refl })

  -- where this rule has an unbound variable, the first of them is the first case
  module _ (end : Place) (none_before : (j m : ℕ) → Unbound rules ts j m → length before ≤ j) where
    remember_found : (r : Option Place) (x : ℕ) → x < length (firsts [] ahead) → bound rule x ≡ false → ((y : ℕ) → y < x → bound rule y ≡ true) → r ≡ Some (get_or (firsts [] ahead) x text_start) → (n : ℕ) → Remembered rules ts end n r
    remember_found r x h u low e n = first_case (length before + f.0) (case_of f.0 x _ at_x u) (λ j m c. first j (in_rule j m c (none_before j m c))) (e ∙ ap (λ p. Some p) (inv (place_of_case end f.0 x _ at_x)))
      where
        f : (i : ℕ) × FirstAt [] ahead i (0 + x) (get_or (firsts [] ahead) x text_start)
        f = first_of [] ahead x text_start h

        at_x : FirstAt [] ahead f.0 x (get_or (firsts [] ahead) x text_start)
        at_x = let z : 0 + x ≡ x = omega arith in rw z at f.1

        not_lower : (j : ℕ) (c : InRule j) → x ≤ c.variable
        not_lower j c = go (ltb c.variable x) refl
          where
            go : (b : Bool) → ltb c.variable x ≡ b → x ≤ c.variable
            go true t = absurd (true≢false (inv (low c.variable (ltb-true c.variable x t)) ∙ c.unbound))
            go false t = ltb-false c.variable x t

        first : (j : ℕ) → InRule j ⊎ (length before + length (to_dot ahead) ≤ j) → length before + f.0 ≤ j
        first j (inl c) = omega (arith, c.same, first_order [] ahead f.0 c.position x c.variable _ c.place at_x c.first (not_lower j c))
        first j (inr l) = omega (arith, first_inside [] ahead f.0 x _ at_x)

    remember_bound : (r : Option Place) → ((x : ℕ) → x < length (firsts [] ahead) → bound rule x ≡ true) → r ≡ None → Remembered rules ts end (length before + length (to_dot ahead)) r
    remember_bound r all e = no_case (λ j m c. later j (in_rule j m c (none_before j m c))) e
      where
        later : (j : ℕ) → InRule j ⊎ (length before + length (to_dot ahead) ≤ j) → length before + length (to_dot ahead) ≤ j
        later j (inl c) =
            let y = number_of_first [] ahead c.position c.variable c.place c.first in
            absurd (true≢false (inv (all c.variable (omega (arith, y.1, y.2))) ∙ c.unbound))
        later j (inr l) = l

  -- over the rule: what was found before is kept, else its first unbound variable is looked for
  pub remember_on : (end : Place) (u r : Option Place) → Remembered rules ts end (length before) u → FirstUnbound (bound rule) (firsts [] ahead) r → Remembered rules ts end (length before + length (to_dot ahead)) (option_or u r)
  remember_on end u r (first_case i c f e) looked = first_case i c f (rw e)
  remember_on end u r (no_case h e) (found x b o l q) = rw e (remember_found end h r x b o l q (length before + length (to_dot ahead)))
  remember_on end u r (no_case h e) (all_bound all q) = rw e (remember_bound end h r all q)

-- ---- at the end of the rules

few_dots : (rules : List (Rule Value)) (l : Tokens) (r : Rule Value) → get_elem? rules (dots l) ≡ some r → dots l < length rules
few_dots rules l r e = go rules (dots l) e
  where
    go : (rs : List (Rule Value)) (n : ℕ) → get_elem? rs n ≡ some r → n < length rs
    go [] n h = absurd (none_some h)
    go (x ∷ rs) zero h = omega arith
    go (x ∷ rs) (suc n) h = omega (arith, go rs n h)

-- no case stands behind the last rule
pub none_behind : (rules : List (Rule Value)) (before ahead : Tokens) → dots before ≡ length rules → (j m : ℕ) → Unbound rules (before ++ ahead) j m → length before ≤ j → ⊥
none_behind rules before ahead ended j m x h =
    let b = behind before ahead x.before (x.token ∷ x.after) (inv x.here) (omega (arith, x.position)) in
    omega (arith, few_dots rules x.before x.rule x.its_rule, ap dots b.1, dots_append before b.0)
