-- A term, by the tests that lead to what is read: where it is refused, or what it is.
use mathlib.Core.Path.{◌≡◌, refl, sym as inv, ◌∙◌}
use mathlib.Core.Bool.{Bool, true, false}
use mathlib.Core.Option.{none, some}
use mathlib.Core.List.{List, [], ◌∷◌, ◌++◌, map}
use Prim.Native.Nat.{ℕ, suc, ◌-◌, ◌≤◌, ◌<◌}
use native.Mathlib.Omega.{arith}
use lib.Dec.{leb, ltb}
use lib.ListN.{length}
use borrow.Author.Tests.{ne_eqb, lt-ltb, le-ltb}
use Rattle.texts.specs.declared.place.Place.{Place}
use Rattle.texts.specs.declared.refusal.Refusal.{Refusal}
use Rattle.texts.specs.declared.refusal.Refusal.TheVariants.{Misplaced, LargeNumber, OverSize}
use Rattle.texts.specs.Refusal.{number_of}
use Rattle.lexis.specs.Strings.{between}
use Rattle.lexis.specs.Number.{capped, decimal}
use Rattle.texts.specs.Parts.{part}
use Rattle.lexis.proofs.Strings.{between_length}
use Rattle.reading.specs.Reading.{◌▹◌}
use Rattle.texts.specs.Place.{past}
use Rattle.meaning.specs.Rules.{Bytes, Term, constant, variable}
use Rattle.meaning.specs.Values.{Value, same_bytes}
use Rattle.grammar.specs.Tokens.{underscore, Token, number}
use Rattle.grammar.specs.Trees.{Free, Term as Tree}
use Rattle.grammar.specs.Spelling.{Mark, inside, spell_term}
use Rattle.grammar.specs.Variables.{Variables as Names, with_variable, meet_symbol, meet, met}
use Rattle.grammar.specs.Abstraction.{term_for}
use Rattle.grammar.specs.Sizes.{greatest_number, most_bytes, too_big, too_long, too_many, is_underscore, too_many_variables}
use Rattle.grammar.specs.States.{State, TermContext, term_wanted, term_minus, term_read, term_mark}
use Rattle.grammar.specs.Moves.{on_variable, on, free_moves, symbol_number, token_number, when, fire, either, try}
use Rattle.grammar.specs.Machine.{a_term, moves, step, finished}
use Rattle.grammar.proofs.Moves.{free_given, free_denied}
use Rattle.grammar.proofs.Numbers.{try_number, fire_number}
use Rattle.syntax.specs.declared.token.TokenRead.{TokenRead}
use Rattle.syntax.specs.Text.{token_of, token_read, next_of}
use Rattle.syntax.specs.Variables.{variables_of, Fits, first_among}
use Rattle.syntax.specs.Ahead.{wants, ends_rule, if_first}
use Rattle.syntax.specs.Fills.{Production, Goes, Stops}
use Rattle.syntax.specs.Terms.{TermPlace, term_in, negative_in, signed}
use Rattle.syntax.proofs.Tokens.{token_by, token_here, past_here, forward, part_length, spelled_here}
use Rattle.syntax.proofs.Steps.{fault_at, Meets, meets_none, on_kind, over_kind, wrong_token}
use Rattle.syntax.proofs.Sizes.{fault_none, fault_big, fault_many, fault_variables, word_fault, capped_small, capped_big}
use Rattle.syntax.proofs.Readings.{Around}
use Rattle.syntax.proofs.Variables.{count_names, one_more, more_names, named, number_is, number_in_count, known, unknown, added, underscored, length_more}

pub free : {ground : Bool} → ground ≡ false → Free ground
free e = rw e tt

-- a term in any place: a context gives the state before it, and where it stands
module _ {ground : Bool} {H : Type 0} (pre : H → State ground) (place : H → TermContext ground) where
  abbrev pub term_from : Production ground
  term_from = record { Context = H; Tree = Tree ground; Meant = Term Value; before = λ h. wants (pre h); behind = λ h t. wants (term_read (place h) t); spelling = spell_term inside; meant = term_for }

  module _ (mark : H → Mark) (text : Bytes) (at : ℕ) (t : TokenRead) (et : t ≡ token_read ground text at) (over : Bool) (v : List Place) (k : ℕ) (ek : t.kind ≡ k) (nk : k ≡ 20 → ⊥) where
    abbrev u : Token
    u = token_by k (part text t.place)

    -- the first token passes a size
    pub term_stops : (next : H → State ground) → ((h : H) → step (pre h) u ≡ some (record { mark = mark h; state = next h })) → (e : Refusal) → 2 ≤ number_of e → ((h : H) → fault_at ground text v u (mark h) ≡ number_of e) → Stops term_from text at v (record { refusal = e; place = t.place })
    unfolding step
    term_stops next steps e big faults = record { refuses = big; answer = λ h. over_kind ground text at t et k ek nk (wants (pre h)) v (record { mark = mark h; state = next h }) (number_of e) (steps h) (inv (faults h)) (λ z. omega arith) }

    -- it is a term of one token
    pub term_goes : {v' : List Place} {S : Term Value → Type 0} → (k ≡ 21 → ⊥) → (x : Tree ground) → ((h : H) → step (pre h) u ≡ some (record { mark = mark h; state = term_read (place h) x })) → over ≡ false → ((h : H) → fault_at ground text v u (mark h) ≡ 0) → Fits v' → Meets text u t.place v v' → met (variables_of text v) (spell_term inside x) ≡ variables_of text v' → S (term_for (variables_of text v) x) → Goes term_from over text at v (past t.place) v' S
    unfolding step
    term_goes {v'} sk x steps o faults fits m names s =
        record {
          forward = omega (arith, forward ground text at t et (λ q. nk (inv ek ∙ q)));
          stands = past_here ground text at t et (λ q. absurd (sk (inv ek ∙ q)));
          kept = o;
          fits = fits;
          tree = x;
          means = s;
          names = names;
          ahead = λ h. on_kind ground text at t et k ek nk (wants (pre h)) v v' (record { mark = mark h; state = term_read (place h) x }) (steps h) (faults h) m;
        }

-- a number, in any state that takes one
module _ {ground : Bool} {H : Type 0} (pre : H → State ground) (place : H → TermContext ground) (mark : H → Mark) (text : Bytes) (at : ℕ) (t : TokenRead) (et : t ≡ token_read ground text at) (over : Bool) (v : List Place) (ek : t.kind ≡ 4) (negative : Bool) (mk : ℕ → Tree ground) (steps : (h : H) (n : ℕ) → step (pre h) (number n) ≡ some (record { mark = mark h; state = term_read (place h) (mk n) })) (sizes : (h : H) → too_many ground (mark h) ≡ over) where
  abbrev n : ℕ
  n = decimal (part text t.place)

  number_big : leb (capped n) greatest_number ≡ false → Stops (term_from pre place) text at v (record { refusal = LargeNumber; place = t.place })
  unfolding token_of too_big
  number_big q = term_stops pre place mark text at t et over v 4 ek (λ z. omega arith) (λ h. term_read (place h) (mk n)) (λ h. steps h _) LargeNumber (omega arith) (λ h. fault_big _ _ _ _ (capped_big n q))

  module _ (q : leb (capped n) greatest_number ≡ true) where
    number_many : over ≡ true → Stops (term_from pre place) text at v (record { refusal = OverSize; place = t.place })
    unfolding token_of too_big
    number_many o = term_stops pre place mark text at t et over v 4 ek (λ z. omega arith) (λ h. term_read (place h) (mk n)) (λ h. steps h _) OverSize (omega arith) (λ h. fault_many _ _ _ _ (capped_small n q).1 (sizes h ∙ o))

    number_small : {S : Term Value → Type 0} → Fits v → over ≡ false → ((vs : Names) (m : ℕ) → term_for vs (mk m) ≡ constant (Value.number (signed negative m))) → ((vs : Names) (m : ℕ) → met vs (spell_term inside (mk m)) ≡ vs) → S (constant (Value.number (signed negative (capped n)))) → Goes (term_from pre place) over text at v (past t.place) v S
    unfolding token_of too_big too_long too_many_variables token_number meet
    number_small fits o means names s =
        let c = capped_small n q in
        term_goes pre place mark text at t et over v 4 ek (λ z. omega arith) (λ z. omega arith) (mk n) (λ h. steps h _) o (λ h. fault_none _ _ _ _ c.1 refl (sizes h ∙ o) refl) fits (meets_none text (number n) t.place v refl refl) (names _ _) (rw (means (variables_of text v) n, ← c.0) s)

-- a token that is a constant by itself, and so long
record Constant (ground : Bool) (u : Token) (x : Tree ground) (len : ℕ) : Type 0 where
  steps : (h : TermContext ground) → step (term_wanted h) u ≡ some (record { mark = term_mark h; state = term_read h x })
  small : too_big u ≡ false
  sized : too_long u ≡ ltb most_bytes len
  no_variable : (vs : Names) → too_many_variables vs u ≡ false
  no_dot : ends_rule u ≡ false
  meets_none : (vs : Names) → meet vs u ≡ vs
  met_none : (vs : Names) → met vs (spell_term inside x) ≡ vs

module _ (ground over : Bool) (text : Bytes) (at : ℕ) (t : TokenRead) (et : t ≡ token_read ground text at) (v : List Place) where
  abbrev before : TermPlace ground over → State ground
  before h = term_wanted h.context

  abbrev mark : TermPlace ground over → Mark
  mark h = term_mark h.context

  module _ (ek : t.kind ≡ 4) where
    abbrev value : ℕ
    value = capped (decimal (part text t.place))

    -- a number: 3 where it is over its size, and else 4 where it is one too many
    number_step : (h : TermPlace ground over) (n : ℕ) → step (before h) (number n) ≡ some (record { mark = mark h; state = term_read h.context (Tree.number n) })
    unfolding step moves a_term try fire either
    number_step h n = refl

    pub term_big : leb value greatest_number ≡ false → Stops (term_in ground over) text at v (record { refusal = LargeNumber; place = t.place })
    term_big q = number_big before (λ h. h.context) mark text at t et over v ek false Tree.number number_step (λ h. h.size) q

    pub term_many : leb value greatest_number ≡ true → over ≡ true → Stops (term_in ground over) text at v (record { refusal = OverSize; place = t.place })
    term_many q o = number_many before (λ h. h.context) mark text at t et over v ek false Tree.number number_step (λ h. h.size) q o

    pub term_small : {S : Term Value → Type 0} → leb value greatest_number ≡ true → Fits v → over ≡ false → S (constant (Value.number (signed false value))) → Goes (term_in ground over) over text at v (past t.place) v S
    unfolding term_for signed met spell_term meet
    term_small q fits o s = number_small before (λ h. h.context) mark text at t et over v ek false Tree.number number_step (λ h. h.size) q fits o (λ vs m. refl) (λ vs m. refl) s

    -- the number behind a minus
    negative_step : (h : TermContext ground) (n : ℕ) → step (term_minus h) (number n) ≡ some (record { mark = inside; state = term_read h (Tree.negative n) })
    unfolding step moves try fire either
    negative_step h n = refl

    pub negative_big : leb value greatest_number ≡ false → Stops (negative_in ground) text at v (record { refusal = LargeNumber; place = t.place })
    unfolding too_many
    negative_big q = number_big term_minus (λ h. h) (λ h. inside) text at t et false v ek true Tree.negative negative_step (λ h. refl) q

    pub negative_small : {S : Term Value → Type 0} → leb value greatest_number ≡ true → Fits v → S (constant (Value.number (signed true value))) → Goes (negative_in ground) false text at v (past t.place) v S
    unfolding term_for signed met spell_term meet meet_symbol too_many
    negative_small q fits s = number_small term_minus (λ h. h) (λ h. inside) text at t et false v ek true Tree.negative negative_step (λ h. refl) q fits refl (λ vs m. refl) (λ vs m. refl) s

  pub negative_wrong : (t.kind ≡ 4 → ⊥) → Stops (negative_in ground) text at v (record { refusal = Misplaced; place = t.place })
  unfolding moves try_number fire_number either when finished
  negative_wrong ne = record { refuses = omega arith; answer = λ h. wrong_token ground text at t et (wants (term_minus h)) v (rw (ne_eqb t.kind 4 ne)) (λ e. refl) }

  -- ---- a constant of one token, so long: a name, or a string

  module _ (k : ℕ) (ek : t.kind ≡ k) (real : k ≡ 20 → ⊥) (known : k ≡ 21 → ⊥) (x : Tree ground) (len : ℕ) (w : Constant ground (token_by k (part text t.place)) x len) where
    constant_stops : (over ≡ false → most_bytes < len) → Stops (term_in ground over) text at v (record { refusal = OverSize; place = t.place })
    constant_stops l = term_stops before (λ h. h.context) mark text at t et over v k ek real (λ h. term_read h.context x) (λ h. w.steps h.context) OverSize (omega arith) (λ h. word_fault _ _ _ _ len over w.small w.sized h.size l)

    constant_goes : {S : Term Value → Type 0} → len ≤ most_bytes → over ≡ false → Fits v → S (term_for (variables_of text v) x) → Goes (term_in ground over) over text at v (past t.place) v S
    constant_goes l o fits s = term_goes before (λ h. h.context) mark text at t et over v k ek real known x (λ h. w.steps h.context) o (λ h. fault_none _ _ _ _ w.small (w.sized ∙ le-ltb most_bytes len l) (h.size ∙ o) (w.no_variable _)) fits (meets_none text (token_by k (part text t.place)) t.place v w.no_dot (w.meets_none _)) (w.met_none _) s

  module _ (ek : t.kind ≡ 0) where
    is_name : Constant ground (token_by 0 (part text t.place)) (Tree.name (part text t.place)) t.place.len
    unfolding step moves a_term try fire either token_of too_big too_long too_many_variables term_for met meet spell_term token_number
    is_name = record { steps = λ h. refl; small = refl; sized = rw (part_length ground text at t et); no_variable = λ vs. refl; no_dot = refl; meets_none = λ vs. refl; met_none = λ vs. refl }

    pub name_stops : (over ≡ false → most_bytes < t.place.len) → Stops (term_in ground over) text at v (record { refusal = OverSize; place = t.place })
    name_stops = constant_stops 0 ek (λ z. omega arith) (λ z. omega arith) (Tree.name (part text t.place)) t.place.len is_name

    pub name_goes : {S : Term Value → Type 0} → t.place.len ≤ most_bytes → over ≡ false → Fits v → S (constant (Value.name (part text t.place))) → Goes (term_in ground over) over text at v (past t.place) v S
    unfolding term_for
    name_goes = constant_goes 0 ek (λ z. omega arith) (λ z. omega arith) (Tree.name (part text t.place)) t.place.len is_name

  module _ (ek : t.kind ≡ 22) where
    is_string : Constant ground (token_by 22 (part text t.place)) (Tree.string (between (part text t.place))) (t.place.len - 2)
    unfolding step moves a_term try fire either token_of too_big too_long too_many_variables term_for met meet spell_term token_number
    is_string = record { steps = λ h. refl; small = refl; sized = rw (between_length (part text t.place), part_length ground text at t et); no_variable = λ vs. refl; no_dot = refl; meets_none = λ vs. refl; met_none = λ vs. refl }

    pub string_stops : (over ≡ false → most_bytes < t.place.len - 2) → Stops (term_in ground over) text at v (record { refusal = OverSize; place = t.place })
    string_stops = constant_stops 22 ek (λ z. omega arith) (λ z. omega arith) (Tree.string (between (part text t.place))) (t.place.len - 2) is_string

    pub string_goes : {S : Term Value → Type 0} → t.place.len - 2 ≤ most_bytes → over ≡ false → Fits v → S (constant (Value.string (between (part text t.place)))) → Goes (term_in ground over) over text at v (past t.place) v S
    unfolding term_for
    string_goes = constant_goes 22 ek (λ z. omega arith) (λ z. omega arith) (Tree.string (between (part text t.place))) (t.place.len - 2) is_string

  -- ---- a minus

  module _ (ek : t.kind ≡ 10) where
    minus_step : (h : TermPlace ground over) → step (before h) (token_by 10 (part text t.place)) ≡ some (record { mark = mark h; state = term_minus h.context })
    unfolding step moves a_term try fire either token_of when symbol_number
    minus_step h = refl

    pub minus_over : over ≡ true → Stops (term_in ground over) text at v (record { refusal = OverSize; place = t.place })
    unfolding token_of too_big too_long too_many_variables is_underscore
    minus_over o = term_stops before (λ h. h.context) mark text at t et over v 10 ek (λ z. omega arith) (λ h. term_minus h.context) minus_step OverSize (omega arith) (λ h. fault_many _ _ _ _ refl (h.size ∙ o))

    -- and the number behind it
    pub minus_around : over ≡ false → Around (negative_in ground) (term_in ground over) (λ a. a) false over text (next_of t) at v v
    unfolding step token_of too_big too_long too_many_variables is_underscore meet meet_symbol token_number symbol_number
    minus_around o =
        record {
          later = omega (arith, forward ground text at t et (λ q. let z : ◌≡◌ {A = ℕ} 10 20 = inv ek ∙ q in omega arith));
          kept = λ z. o;
          tree = λ x. x;
          place = λ h. h.context;
          before = λ h. on_kind ground text at t et 10 ek (λ z. omega arith) (wants (term_wanted h.context)) v v (record { mark = term_mark h.context; state = term_minus h.context }) (minus_step h) (fault_none _ _ _ _ refl refl (h.size ∙ o) refl) (meets_none text (token_by 10 (part text t.place)) t.place v refl refl);
          behind = λ h x. refl;
          spelling = λ x. refl;
          meant = λ x. refl;
        }

  -- ---- no term: a facts line has no variables

  module _ (a : t.kind ≡ 0 → ⊥) (s : t.kind ≡ 22 → ⊥) (b : t.kind ≡ 4 → ⊥) (c : t.kind ≡ 10 → ⊥) where
    pub ground_wrong : ground ≡ true → Stops (term_in ground over) text at v (record { refusal = Misplaced; place = t.place })
    unfolding moves a_term try_number fire_number either when finished symbol_number
    ground_wrong g = record { refuses = omega arith; answer = λ h. wrong_token ground text at t et (wants (before h)) v (rw (ne_eqb t.kind 0 a, ne_eqb t.kind 22 s, ne_eqb t.kind 4 b, ne_eqb t.kind 10 c) (denied h.context)) (λ e. refl) }
      where
        denied : (h : TermContext ground) → try_number (free_moves ground (λ w. on_variable (term_mark h) (λ b'. term_read h (Tree.variable w b')) ∷ on (term_mark h) underscore (term_read h (Tree.anonymous w)) ∷ [])) t.kind (token_here ground text at t et) ≡ none
        denied h = rw (free_denied ground _ g)

    pub free_wrong : ground ≡ false → (t.kind ≡ 2 → ⊥) → (t.kind ≡ 3 → ⊥) → Stops (term_in ground over) text at v (record { refusal = Misplaced; place = t.place })
    unfolding moves a_term try_number fire_number either when finished symbol_number
    free_wrong g d e = record { refuses = omega arith; answer = λ h. wrong_token ground text at t et (wants (before h)) v (rw (ne_eqb t.kind 0 a, ne_eqb t.kind 22 s, ne_eqb t.kind 4 b, ne_eqb t.kind 10 c) (given h.context)) (λ q. refl) }
      where
        given : (h : TermContext ground) → try_number (free_moves ground (λ w. on_variable (term_mark h) (λ b'. term_read h (Tree.variable w b')) ∷ on (term_mark h) underscore (term_read h (Tree.anonymous w)) ∷ [])) t.kind (token_here ground text at t et) ≡ none
        given h = rw (free_given ground (λ w. on_variable (term_mark h) (λ b'. term_read h (Tree.variable w b')) ∷ on (term_mark h) underscore (term_read h (Tree.anonymous w)) ∷ []) (free g), ne_eqb t.kind 2 d, ne_eqb t.kind 3 e)

  -- `|`, on both
  pub bar_wrong : t.kind ≡ 23 → Stops (term_in ground over) text at v (record { refusal = Misplaced; place = t.place })
  bar_wrong ek = go ground refl
    where
      go : (b : Bool) → ground ≡ b → Stops (term_in ground over) text at v (record { refusal = Misplaced; place = t.place })
      go true e = ground_wrong (λ z. omega arith) (λ z. omega arith) (λ z. omega arith) (λ z. omega arith) e
      go false e = free_wrong (λ z. omega arith) (λ z. omega arith) (λ z. omega arith) (λ z. omega arith) e (λ z. omega arith) (λ z. omega arith)

-- ---- a variable, in a program

module _ (over : Bool) (text : Bytes) (at : ℕ) (t : TokenRead) (et : t ≡ token_read false text at) (v : List Place) (ek : t.kind ≡ 2) where
  abbrev b : Bytes
  b = part text t.place

  variable_step : (h : TermPlace false over) → step (term_wanted h.context) (token_by 2 b) ≡ some (record { mark = term_mark h.context; state = term_read h.context (Tree.variable tt b) })
  unfolding step moves a_term try fire either token_of free_moves
  variable_step h = refl

  no_underscore : same_bytes b (95 ∷ []) ≡ false
  no_underscore = named b (rw ek at (spelled_here false text at t et (λ q. omega arith)))

  pub variable_stops : (over ≡ false → most_bytes < t.place.len) → Stops (term_in false over) text at v (record { refusal = OverSize; place = t.place })
  unfolding token_of too_big too_long
  variable_stops l = term_stops (before false over text at t et v) (λ h. h.context) (mark false over text at t et v) text at t et over v 2 ek (λ z. omega arith) (λ h. term_read h.context (Tree.variable tt b)) variable_step OverSize (omega arith) (λ h. word_fault _ _ _ _ t.place.len over refl (rw (part_length false text at t et)) h.size l)

  module _ (n : ℕ) (en : n ≡ first_among b (map (part text) v)) where
    abbrev vs : Names
    vs = variables_of text v

    pub variable_many : length v ≤ n → 16 ≤ n → Stops (term_in false over) text at v (record { refusal = OverSize; place = t.place })
    unfolding token_of too_big too_many_variables
    variable_many k l = term_stops (before false over text at t et v) (λ h. h.context) (mark false over text at t et v) text at t et over v 2 ek (λ z. omega arith) (λ h. term_read h.context (Tree.variable tt b)) variable_step OverSize (omega arith) (λ h. fault_variables _ _ _ _ refl (rw (unknown text v t.place no_underscore n en k, length_more vs (some b), count_names text v) (lt-ltb 16 (suc (length v)) (omega (arith, number_in_count text v t.place no_underscore n en)))))

    module _ (l : t.place.len ≤ most_bytes) (o : over ≡ false) where
      means : term_for {ground = false} vs (Tree.variable tt b) ≡ variable n
      unfolding term_for
      means = rw (number_is text v t.place no_underscore n en)

      short : (h : TermPlace false over) → too_long (token_by 2 b) ≡ false
      unfolding token_of too_long
      short h = rw (part_length false text at t et) (le-ltb most_bytes t.place.len l)

      pub variable_known : {S : Term Value → Type 0} → S (variable n) → Fits v → n < length v → Goes (term_in false over) over text at v (past t.place) v S
      unfolding token_of too_big too_many_variables token_number met meet spell_term
      variable_known s fits k =
          let e = known text v t.place no_underscore n en k in
          term_goes (before false over text at t et v) (λ h. h.context) (mark false over text at t et v) text at t et over v 2 ek (λ z. omega arith) (λ z. omega arith) (Tree.variable tt b) variable_step o (λ h. fault_none _ _ _ _ refl (short h) (h.size ∙ o) (rw (e, count_names text v) (le-ltb 16 (length v) fits))) fits (meets_none text (Token.variable b) t.place v refl e) e (rw means s)

      pub variable_new : {S : Term Value → Type 0} → S (variable n) → length v ≤ n → (16 ≤ n → ⊥) → Goes (term_in false over) over text at v (past t.place) (v ++ (t.place ∷ [])) S
      unfolding token_of too_big too_many_variables token_number met meet spell_term if_first
      variable_new s k q =
          let room : length v < 16 = omega arith in
          let e = unknown text v t.place no_underscore n en k in
          let f : with_variable vs b ≡ variables_of text (v ++ (t.place ∷ [])) = e ∙ inv (added text v t.place no_underscore n en) in
          term_goes (before false over text at t et v) (λ h. h.context) (mark false over text at t et v) text at t et over v 2 ek (λ z. omega arith) (λ z. omega arith) (Tree.variable tt b) variable_step o (λ h. fault_none _ _ _ _ refl (short h) (h.size ∙ o) (rw (e, length_more vs (some b), count_names text v) (le-ltb 16 (suc (length v)) (omega arith)))) (one_more text v t.place room) (record { going = refl; names = f; places = rw (e, length_more vs (some b), lt-ltb (length vs) (suc (length vs)) (omega arith)) }) f (rw means s)

-- ---- `_`, in a program

module _ (over : Bool) (text : Bytes) (at : ℕ) (t : TokenRead) (et : t ≡ token_read false text at) (v : List Place) (ek : t.kind ≡ 3) where
  anonymous_step : (h : TermPlace false over) → step (term_wanted h.context) (token_by 3 (part text t.place)) ≡ some (record { mark = term_mark h.context; state = term_read h.context (Tree.anonymous tt) })
  unfolding step moves a_term try fire either when token_of free_moves symbol_number
  anonymous_step h = refl

  pub anonymous_over : over ≡ true → Stops (term_in false over) text at v (record { refusal = OverSize; place = t.place })
  unfolding token_of too_big
  anonymous_over o = term_stops (before false over text at t et v) (λ h. h.context) (mark false over text at t et v) text at t et over v 3 ek (λ z. omega arith) (λ h. term_read h.context (Tree.anonymous tt)) anonymous_step OverSize (omega arith) (λ h. fault_many _ _ _ _ refl (h.size ∙ o))

  pub anonymous_many : 16 ≤ length v → Stops (term_in false over) text at v (record { refusal = OverSize; place = t.place })
  unfolding token_of too_big too_many_variables is_underscore
  anonymous_many l = term_stops (before false over text at t et v) (λ h. h.context) (mark false over text at t et v) text at t et over v 3 ek (λ z. omega arith) (λ h. term_read h.context (Tree.anonymous tt)) anonymous_step OverSize (omega arith) (λ h. fault_variables _ _ _ _ refl (rw (count_names text v) (lt-ltb 16 (suc (length v)) (omega arith))))

  pub anonymous_new : {S : Term Value → Type 0} → over ≡ false → length v < 16 → S (variable (length v)) → Goes (term_in false over) over text at v (past t.place) (v ++ (t.place ∷ [])) S
  unfolding token_of too_big too_long too_many_variables is_underscore token_number symbol_number met meet meet_symbol spell_term if_first term_for
  anonymous_new o room s =
      let f : variables_of text v ▹ none ≡ variables_of text (v ++ (t.place ∷ [])) = inv (more_names text v t.place ∙ rw (underscored (part text t.place) (rw ek at (spelled_here false text at t et (λ q. omega arith))))) in
      term_goes (before false over text at t et v) (λ h. h.context) (mark false over text at t et v) text at t et over v 3 ek (λ z. omega arith) (λ z. omega arith) (Tree.anonymous tt) anonymous_step o (λ h. fault_none _ _ _ _ refl refl (h.size ∙ o) (rw (count_names text v) (le-ltb 16 (suc (length v)) (omega arith)))) (one_more text v t.place room) (record { going = refl; names = f; places = rw (length_more (variables_of text v) none, lt-ltb (length (variables_of text v)) (suc (length (variables_of text v))) (omega arith)) }) f (rw (count_names text v) s)
