-- Every rule of a program that is read is safe: each of its variables has a first occurrence, at which it would have been refused.
use mathlib.Core.Path.{◌≡◌, refl, sym as inv, ap, ◌∙◌}
use mathlib.Core.Bool.{Bool, true, false}
use mathlib.Core.List.{List, [], ◌∷◌, ◌++◌, append-nil, append_assoc}
use Prim.Native.Nat.{ℕ, suc, ◌+◌, ◌<◌}
use native.Mathlib.Omega.{arith}
use native.Mathlib.Nat.{add-zero}
use lib.ListN.{length, length-append}
use Rattle.reading.specs.Reading.{tokens, unplaced, seen, tree, Answer, refused, Reading}
use Rattle.reading.proofs.Lists.{tokens_append, seen_append}
use Rattle.texts.specs.declared.place.Place.{Place}
use Rattle.meaning.specs.Sets.{every}
use Rattle.meaning.specs.Values.{Value}
use Rattle.meaning.specs.Rules.{Bytes, Rule as MeantRule}
use Rattle.meaning.specs.Safety.{bound, safe}
use Rattle.grammar.specs.Tokens.{dot, Token, symbol}
use Rattle.grammar.specs.Trees.{empty, ◌then◌, count, Rule, Program}
use Rattle.grammar.specs.Spelling.{Mark, mere, spell_rule, spell}
use Rattle.grammar.specs.Variables.{Variables, meet_symbol, meet}
use Rattle.grammar.specs.Sizes.{programs}
use Rattle.grammar.specs.Moves.{symbol_number, token_number}
use Rattle.grammar.specs.Abstraction.{rule_for, rules_for}
use Rattle.grammar.proofs.Variables.{met_seen}
use Rattle.texts.specs.Place.{text_start}
use Rattle.syntax.specs.Ahead.{firsts}
use Rattle.syntax.specs.Text.{end_of}
use Rattle.rulesafety.proofs.Safe.{safe_of_bound}
use Rattle.stages.specs.Stage.{on}
use Rattle.program.specs.Unbound.{Tokens, dots, met_behind, Unbound}
use Rattle.program.specs.Stage.{tokens_of, ProgramStage}
use Rattle.program.proofs.Segments.{Meeting, ends, meets, passes, meeting, firsts_ends, firsts_meets, firsts_passes, first_of}
use Rattle.program.proofs.Remembered.{same_cons, case_of}
use Rattle.program.proofs.Numbered.{rule_variables, every_on, rule_below}
use Rattle.program.proofs.Spelled.{dots_in, dots_unplaced, dots_in_append, dotted}
use Rattle.program.proofs.Taken.{read_is_read}

-- ---- tokens with their places, split as the tokens are

pub record Split (ts : Tokens) (l m : List Token) : Type 0 where
  pub before : Tokens
  pub ahead : Tokens
  pub whole : before ++ ahead ≡ ts
  pub its_tokens : unplaced before ≡ l
  pub others : unplaced ahead ≡ m

split : (ts : Tokens) (l m : List Token) → unplaced ts ≡ l ++ m → Split ts l m
unfolding unplaced
split ts [] m e = record { before = []; ahead = ts; whole = refl; its_tokens = refl; others = e }
split [] (t ∷ l) m e = absurd (omega (arith, ap length e))
split (u ∷ ts) (t ∷ l) m e = go (split ts l m)
  where
    first : u.token ≡ t
    first = cc

    rest : unplaced ts ≡ l ++ m
    rest = cc

    go : (unplaced ts ≡ l ++ m → Split ts l m) → Split (u ∷ ts) (t ∷ l) m
    go rec = let s = rec rest in record { before = u ∷ s.before; ahead = s.ahead; whole = ap (λ x. u ∷ x) s.whole; its_tokens = same_cons first s.its_tokens; others = s.others }

-- ---- the first occurrences in a rule's tokens are as many as the variables that are met

counted : (vs : Variables) (ts : Tokens) (front rest : List Token) → unplaced ts ≡ front ++ symbol dot ∷ rest → dots_in front ≡ 0 → length vs + length (firsts vs ts) ≡ length (seen programs vs front)
unfolding unplaced seen dots_in token_number symbol_number
counted vs [] front rest e d = absurd (omega (arith, ap length e, length-append front (symbol dot ∷ rest)))
counted vs (t ∷ ts) [] rest e d = let z : t.token ≡ symbol dot = cc in rw (firsts_ends vs t ts (rw z)) (add-zero (length vs))
counted vs (t ∷ ts) (u ∷ front) rest e d = go (meeting vs t.token) (counted (meet vs t.token) ts front rest others)
  where
    first : t.token ≡ u
    first = cc

    others : unplaced ts ≡ front ++ symbol dot ∷ rest
    others = cc

    go : Meeting vs t.token → (dots_in front ≡ 0 → length (meet vs t.token) + length (firsts (meet vs t.token) ts) ≡ length (seen programs (meet vs t.token) front)) → length vs + length (firsts vs (t ∷ ts)) ≡ length (seen programs (meet vs u) front)
    go (ends k f m) rec = absurd (omega (arith, rw (← first, k) at d))
    go (meets k f m) rec = rw (← first, firsts_meets vs t ts k f) (omega (arith, m, rec (rw (← first, k) at d)))
    go (passes k f m) rec = rw (← first, firsts_passes vs t ts k f m) (omega (arith, ap length m, ap (λ l. length (firsts l ts)) m, rec (rw (← first, k) at d)))

-- ---- what is behind whole rules

module _ {ground : Bool} where
  -- behind the tokens of a rule no variable is remembered, and one dot more has been passed
  behind_rule : (vs : Variables) (m : Mark) (r : Rule ground) → (dots_in (tokens (spell_rule m r)) ≡ 1) × (seen programs vs (tokens (spell_rule m r)) ≡ [])
  unfolding tokens dots_in seen meet meet_symbol token_number symbol_number
  behind_rule vs m r =
      let d = dotted m r in
      let e : tokens (spell_rule m r) ≡ tokens d.front ++ symbol dot ∷ [] = ap tokens d.whole ∙ tokens_append d.front (mere dot ∷ []) in
      rw e (dots_in_append (tokens d.front) (symbol dot ∷ []) ∙ rw d.no_dot, seen_append programs vs (tokens d.front) (symbol dot ∷ []))

  pub behind_rules : (p : Program ground) → (dots_in (tokens (spell p)) ≡ length (rules_for p)) × (seen programs [] (tokens (spell p)) ≡ [])
  unfolding spell rules_for dots_in seen tokens
  behind_rules empty = (refl, refl)
  behind_rules (p then r) =
      let h = behind_rules p in
      let m = Mark.rule (suc (count p)) in
      let k = behind_rule [] m r in
      rw (tokens_append (spell p) (spell_rule m r), length-append (rules_for p) (rule_for r ∷ [])) (dots_in_append (tokens (spell p)) (tokens (spell_rule m r)) ∙ rw (h.0, k.0), seen_append programs [] (tokens (spell p)) (tokens (spell_rule m r)) ∙ rw h.1 k.1)

no_tree : {c : Program false} (n : ℕ) (q : Place) → ◌≡◌ {A = Answer Place (Program false)} (refused n q) (tree c) → ⊥
no_tree {c} n q e = let z : ◌≡◌ {A = ℕ} 0 1 = cc in omega arith

-- ---- every variable of each rule is bound

-- refusal 5 is given at none of these tokens
abbrev pub NoneUnbound : List (MeantRule Value) → Tokens → Type 0
NoneUnbound rules ts = (i n : ℕ) → ¬ Unbound rules ts i n

abbrev pub RuleBound : Rule false → Type 0
RuleBound r = (y : ℕ) → y < length (rule_variables r) → bound (rule_for r) y ≡ true

abbrev pub AllBound : Program false → Type 0
AllBound empty = Unit {0}
AllBound (p then r) = AllBound p × RuleBound r

-- a rule behind the rules of p
module _ (p : Program false) (r : Rule false) (rest : List Token) (ts : Tokens) where
  abbrev m : Mark
  m = Mark.rule (suc (count p))

  -- its tokens, and that reading begins anew at them
  pub record Behind : Type 0 where
    pub before : Tokens
    pub ahead : Tokens
    pub whole : before ++ ahead ≡ ts
    pub passed : unplaced before ≡ tokens (spell p)
    pub front : List Token
    pub its_tokens : tokens (spell_rule m r) ≡ front ++ symbol dot ∷ []
    pub no_dot : dots_in front ≡ 0
    pub spelled : unplaced ahead ≡ front ++ symbol dot ∷ rest
    pub new : met_behind before ≡ []
    pub ended : dots before ≡ length (rules_for p)
    pub many : length (firsts [] ahead) ≡ length (rule_variables r)

  pub behind : unplaced ts ≡ tokens (spell p) ++ (tokens (spell_rule m r) ++ rest) → Behind
  unfolding tokens
  behind e =
      let s = split ts (tokens (spell p)) (tokens (spell_rule m r) ++ rest) e in
      let d = dotted m r in
      let its : tokens (spell_rule m r) ≡ tokens d.front ++ symbol dot ∷ [] = ap tokens d.whole ∙ tokens_append d.front (mere dot ∷ []) in
      let all : unplaced s.ahead ≡ tokens d.front ++ symbol dot ∷ rest = s.others ∙ ap (λ l. l ++ rest) its ∙ append_assoc (tokens d.front) (symbol dot ∷ []) rest in
      let n : 0 + length (firsts [] s.ahead) ≡ length (rule_variables r) = counted [] s.ahead (tokens d.front) rest all d.no_dot ∙ ap length (met_seen false [] d.front ∙ d.meets) in
      record {
        before = s.before;
        ahead = s.ahead;
        whole = s.whole;
        passed = s.its_tokens;
        front = tokens d.front;
        its_tokens = its;
        no_dot = d.no_dot;
        spelled = all;
        new = ap (seen programs []) s.its_tokens ∙ (behind_rules p).1;
        ended = dots_unplaced s.before ∙ ap dots_in s.its_tokens ∙ (behind_rules p).0;
        many = omega (arith, n);
      }

  rule_bound : (more : List (MeantRule Value)) → Behind → NoneUnbound (rules_for p ++ rule_for r ∷ more) ts → RuleBound r
  rule_bound more s none y h = go (bound (rule_for r) y) refl
    where
      go : (b : Bool) → bound (rule_for r) y ≡ b → bound (rule_for r) y ≡ true
      go true k = k
      go false k =
          let f = first_of [] s.ahead y text_start (omega (arith, s.many)) in
          let z : 0 + y ≡ y = omega arith in
          absurd (none (length s.before + f.0) 5 (rw s.whole at (case_of (rules_for p) more (rule_for r) s.before s.ahead s.new s.ended f.0 y _ (rw z at f.1) k)))

-- the tokens of p and a rule, one behind the other
pub one_behind : (p : Program false) (r : Rule false) (rest : List Token) (ts : Tokens) → unplaced ts ≡ tokens (spell (p then r)) ++ rest → Behind p r rest ts
unfolding spell
one_behind p r rest ts e =
    let m = Mark.rule (suc (count p)) in
    behind p r rest ts (e ∙ ap (λ l. l ++ rest) (tokens_append (spell p) (spell_rule m r)) ∙ append_assoc (tokens (spell p)) (tokens (spell_rule m r)) rest)

pub rules_bound : (p : Program false) (rest : List Token) (more : List (MeantRule Value)) (ts : Tokens) → unplaced ts ≡ tokens (spell p) ++ rest → NoneUnbound (rules_for p ++ more) ts → AllBound p
unfolding rules_for spell
rules_bound empty rest more ts e none = tt
rules_bound (p then r) rest more ts e none =
    let m = Mark.rule (suc (count p)) in
    let f : unplaced ts ≡ tokens (spell p) ++ (tokens (spell_rule m r) ++ rest) = e ∙ ap (λ l. l ++ rest) (tokens_append (spell p) (spell_rule m r)) ∙ append_assoc (tokens (spell p)) (tokens (spell_rule m r)) rest in
    let g : NoneUnbound (rules_for p ++ rule_for r ∷ more) ts = rw (append_assoc (rules_for p) (rule_for r ∷ []) more) at none in
    (rules_bound p (tokens (spell_rule m r) ++ rest) (rule_for r ∷ more) ts f g, rule_bound p r rest ts more (behind p r rest ts f) g)

-- ---- so every rule is safe

bound_safe : (r : Rule false) → RuleBound r → safe (rule_for r) ≡ true
bound_safe r h =
    let below = rule_below r (length (rule_variables r)) (omega arith) in
    safe_of_bound (rule_for r) (length (rule_variables r)) h (record { in_its_heads = below.0; in_its_body = below.1 })

all_safe : (p : Program false) → AllBound p → every safe (rules_for p) ≡ true
unfolding rules_for every
all_safe empty h = refl
all_safe (p then r) h = every_on safe (rules_for p) (rule_for r) (all_safe p h.0) (bound_safe r h.1)

pub its_spelling : (text : Bytes) (c : Program false) (a : Answer Place (Program false)) → a ≡ tree c → Reading programs (end_of text) (tokens_of text) a → unplaced (tokens_of text) ≡ tokens (spell c)
its_spelling text c a e (Reading.read d s w) = let z : d ≡ c = cc in rw (← z) (inv s)
its_spelling text c a e (Reading.wrong b t l h k n) = absurd (no_tree 2 t.place e)
its_spelling text c a e (Reading.short h k) = absurd (no_tree 2 (end_of text) e)
its_spelling text c a e (Reading.over b t l h k m g n f) = absurd (no_tree (suc n) t.place e)

-- ---- the statements

module _ (text : Bytes) (c : Program false) (h : ProgramStage text (on c)) where
  pub read_is_bound : AllBound c
  read_is_bound =
      let t = read_is_read text c h in
      rules_bound c [] [] (tokens_of text) (its_spelling text c (tree c) refl t.reading ∙ inv (append-nil (tokens (spell c)))) (rw (← (append-nil (rules_for c))) at t.none_unbound)

  pub read_is_safe : every safe (rules_for c) ≡ true
  read_is_safe = all_safe c read_is_bound
