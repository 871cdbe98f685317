-- Where every variable of each rule is bound, refusal 5 is given at no token: a text that is read by the grammar, is within its size and
-- has such rules is taken.
use mathlib.Core.Path.{◌≡◌, refl, sym as inv, ap, ◌∙◌}
use mathlib.Core.Bool.{Bool, true, false, cond}
use mathlib.Core.List.{List, [], ◌∷◌, ◌++◌, append-nil, append_assoc}
use Prim.Native.Nat.{ℕ, suc, ◌+◌, ◌≤◌}
use native.Mathlib.Omega.{arith}
use native.Mathlib.Numerals.{add-one}
use lib.ListN.{length, length-append}
use Rattle.std.specs.Prelude.{None}
use Rattle.std.proofs.lemmas.Option.{none-some}
use Rattle.reading.specs.Reading.{tokens, unplaced, tree, Reading}
use Rattle.reading.proofs.Lists.{tokens_append, unplaced_append}
use Rattle.texts.specs.Place.{text_start}
use Rattle.texts.specs.Sizes.{most_text}
use Rattle.meaning.specs.Values.{Value}
use Rattle.meaning.specs.Rules.{Bytes, Rule as MeantRule}
use Rattle.grammar.specs.Tokens.{dot, Token, symbol}
use Rattle.grammar.specs.Trees.{empty, ◌then◌, count, Rule, Program}
use Rattle.grammar.specs.Spelling.{Mark, spell_rule, spell}
use Rattle.grammar.specs.Sizes.{programs}
use Rattle.grammar.specs.Moves.{symbol_number, token_number}
use Rattle.grammar.specs.Abstraction.{rule_for, rules_for}
use Rattle.syntax.specs.Ahead.{ends_rule}
use Rattle.syntax.specs.Text.{end_of}
use Rattle.stages.specs.Stage.{on, goes, passed, without, Reads}
use Rattle.rulesafety.specs.Unbound.{all_bound}
use Rattle.program.specs.Unbound.{Tokens, dots, Unbound}
use Rattle.program.specs.Stage.{tokens_of, ProgramStage}
use Rattle.program.proofs.Segments.{to_dot}
use Rattle.program.proofs.Remembered.{Remembered, first_case, no_case, remember_on, none_behind}
use Rattle.program.proofs.Spelled.{dots_in, dots_unplaced}
use Rattle.program.proofs.Safe.{NoneUnbound, RuleBound, AllBound, Behind, behind_rules, one_behind, its_spelling}

length_unplaced : (ts : Tokens) → length (unplaced ts) ≡ length ts
unfolding unplaced
length_unplaced [] = refl
length_unplaced (t ∷ ts) = ap suc (length_unplaced ts)

-- a rule's tokens are those as far as the dot
dot_length : (ts : Tokens) (front rest : List Token) → unplaced ts ≡ front ++ symbol dot ∷ rest → dots_in front ≡ 0 → length (to_dot ts) ≡ suc (length front)
unfolding unplaced to_dot dots_in token_number symbol_number
dot_length [] front rest e d = absurd (omega (arith, ap length e, length-append front (symbol dot ∷ rest)))
dot_length (t ∷ ts) [] rest e d = let z : t.token ≡ symbol dot = cc in rw z
dot_length (t ∷ ts) (u ∷ front) rest e d = go (ends_rule u) refl d (dot_length ts front rest others)
  where
    first : t.token ≡ u
    first = cc

    others : unplaced ts ≡ front ++ symbol dot ∷ rest
    others = cc

    go : (b : Bool) → ends_rule u ≡ b → cond b (suc (dots_in front)) (dots_in front) ≡ 0 → (dots_in front ≡ 0 → length (to_dot ts) ≡ suc (length front)) → suc (length (cond (ends_rule t.token) [] (to_dot ts))) ≡ suc (suc (length front))
    go true h k rec = absurd (omega arith)
    go false h k rec = rw (first, h) (ap suc (rec k))

-- what is remembered where nothing was found
no_earlier : (rules : List (MeantRule Value)) (ts : Tokens) (n : ℕ) → Remembered rules ts text_start n None → (j m : ℕ) → Unbound rules ts j m → n ≤ j
no_earlier rules ts n (first_case i x f e) = absurd (none-some _ e)
no_earlier rules ts n (no_case h e) = h

-- no case stands at a token of a rule whose variables are bound, where none stands before it
module _ (p : Program false) (r : Rule false) (rest : List Token) (ts : Tokens) (s : Behind p r rest ts) (more : List (MeantRule Value)) (b : RuleBound r) where
  abbrev rules : List (MeantRule Value)
  rules = rules_for p ++ rule_for r ∷ more

  passed_length : length s.before ≡ length (tokens (spell p))
  passed_length = inv (length_unplaced s.before) ∙ ap length s.passed

  rule_length : length (to_dot s.ahead) ≡ length (tokens (spell_rule (Mark.rule (suc (count p))) r))
  rule_length = dot_length s.ahead s.front rest s.spelled s.no_dot ∙ inv (ap length s.its_tokens ∙ length-append s.front (symbol dot ∷ []) ∙ add-one (length s.front))

  over_rule : ((j n : ℕ) → Unbound rules ts j n → length (tokens (spell p)) ≤ j) → (j n : ℕ) → Unbound rules ts j n → length (tokens (spell p)) + length (tokens (spell_rule (Mark.rule (suc (count p))) r)) ≤ j
  over_rule none j n x =
      let before : (i k : ℕ) → Unbound rules (s.before ++ s.ahead) i k → length s.before ≤ i = λ i k y. omega (arith, none i k (rw s.whole at y), passed_length) in
      let kept = remember_on (rules_for p) more (rule_for r) s.before s.ahead s.new s.ended text_start None None (no_case before refl) (all_bound (λ y l. b y (omega (arith, s.many))) refl) in
      omega (arith, no_earlier rules (s.before ++ s.ahead) (length s.before + length (to_dot s.ahead)) kept j n (rw s.whole x), passed_length, rule_length)

-- no case stands at a token of these rules
later : (p : Program false) (rest : List Token) (more : List (MeantRule Value)) (ts : Tokens) → unplaced ts ≡ tokens (spell p) ++ rest → AllBound p → (j n : ℕ) → Unbound (rules_for p ++ more) ts j n → length (tokens (spell p)) ≤ j
unfolding rules_for spell tokens
later empty rest more ts e b j n x = omega arith
later (p then r) rest more ts e b j n x =
    let m = Mark.rule (suc (count p)) in
    let s = one_behind p r rest ts e in
    let f : unplaced ts ≡ tokens (spell p) ++ (s.front ++ symbol dot ∷ rest) = ap unplaced (inv s.whole) ∙ unplaced_append s.before s.ahead ∙ rw (s.passed, s.spelled) in
    let l : length (tokens (spell p ++ spell_rule m r)) ≡ length (tokens (spell p)) + length (tokens (spell_rule m r)) = ap length (tokens_append (spell p) (spell_rule m r)) ∙ length-append (tokens (spell p)) (tokens (spell_rule m r)) in
    omega (arith, l, over_rule p r rest ts s more b.1 (later p (s.front ++ symbol dot ∷ rest) (rule_for r ∷ more) ts f b.0) j n (rw (append_assoc (rules_for p) (rule_for r ∷ []) more) at x))

-- ---- the statement

-- refusal 5 is given at none of them
pub none_unbound : (c : Program false) (ts : Tokens) → unplaced ts ≡ tokens (spell c) → AllBound c → NoneUnbound (rules_for c) ts
none_unbound c ts e b j n x =
    let l = later c [] [] ts (e ∙ inv (append-nil (tokens (spell c)))) b j n (rw (append-nil (rules_for c)) x) in
    let d : dots ts ≡ length (rules_for c) = dots_unplaced ts ∙ ap dots_in e ∙ (behind_rules c).0 in
    none_behind (rules_for c) ts [] d j n (rw (append-nil ts) x) (omega (arith, l, length_unplaced ts, ap length e))

-- so the text is taken
pub taken : (text : Bytes) (c : Program false) → length text ≤ most_text → Reading programs (end_of text) (tokens_of text) (tree c) → AllBound c → ProgramStage text (on c)
taken text c size reading b = goes tt (on c) (passed (λ h. omega (arith, h))) (goes c (on c) (Reads.read c reading) (goes tt (on c) (without (none_unbound c (tokens_of text) (its_spelling text c (tree c) refl reading) b)) refl))
