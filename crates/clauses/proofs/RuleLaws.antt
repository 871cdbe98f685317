-- What the functions that read a rule return, by the tests that led there.
use mathlib.Core.Path.{◌≡◌, refl, ap, ◌∙◌, sym as inv}
use mathlib.Core.Bool.{true, false}
use mathlib.Core.Option.{none, some}
use mathlib.Core.List.{List, []}
use Prim.Native.Nat.{ℕ, suc, ◌+◌, ◌*◌, ◌≤◌}
use native.Mathlib.Omega.{arith}
use lib.ListN.{length}
use Rattle.texts.specs.declared.place.Place.{Place}
use Rattle.texts.specs.declared.refusal.Refused.{Refused}
use Rattle.texts.specs.declared.refusal.Refusal.TheVariants.{Misplaced, OverSize}
use Rattle.texts.specs.Place.{past}
use Rattle.texts.specs.Places.{places_in}
use Rattle.texts.specs.Parts.{part}
use Rattle.meaning.specs.Rules.{Bytes, Term, Atom}
use Rattle.meaning.specs.Values.{Value}
use Rattle.grammar.specs.Trees.{empty, ◌then◌, count, Heads, Rule as Tree, fact, clause, Program}
use Rattle.grammar.specs.Spelling.{rule}
use Rattle.grammar.specs.Variables.{meet_symbol, meet}
use Rattle.grammar.specs.Abstraction.{heads_for, rule_for}
use Rattle.grammar.specs.Sizes.{most_heads, too_big, too_long, too_many, is_underscore, too_many_variables}
use Rattle.grammar.specs.States.{head_behind, literal_in, atom_wanted, atom_mark}
use Rattle.grammar.specs.Moves.{free_moves, symbol_number, token_number, when, fire, either, try}
use Rattle.grammar.specs.Machine.{new_body, else_wanted, moves, finished_atom, finished}
use Rattle.codes.specs.Related.{end}
use Rattle.codes.proofs.Pairwise.{pairwise_more}
use Rattle.names.specs.Table.{names_of}
use Rattle.tables.specs.Rows as tables
use Rattle.tables.specs.Layout.{literal_stride, rule_rows}
use Rattle.tables.specs.Stored.{Kept}
use Rattle.tables.specs.Coded.{HeadsCoded}
use Rattle.tables.proofs.Stored.{kept_then, kept_wider}
use Rattle.syntax.specs.declared.token.TokenRead.{TokenRead}
use Rattle.syntax.specs.Text.{token_of, token_read, next_of}
use Rattle.syntax.specs.Variables.{variables_of}
use Rattle.syntax.specs.Ahead.{wants, from}
use Rattle.syntax.specs.Fills.{Stops}
use Rattle.syntax.specs.Rules.{behind_rules}
use Rattle.syntax.specs.Heads.{behind_heads, HeadsPlace, heads_in}
use Rattle.syntax.proofs.Tokens.{token_by, forward, past_here}
use Rattle.syntax.proofs.Steps.{same_walk, meets_none, on_kind, over_kind, at_end}
use Rattle.syntax.proofs.Sizes.{fault_none, fault_many}
use Rattle.syntax.proofs.Heads.{heads_dot, heads_if, heads_wrong}
use Rattle.rows.specs.Growth.{Grows}
use Rattle.rows.proofs.Growth.{grows_none, grows_then, keeps_atom}
use Rattle.terms.specs.declared.cursor.Cursor.{Cursor}
use Rattle.terms.specs.Cursors.{onward}
use Rattle.terms.proofs.Readiness.{fits_met, ready_on, codes_wider}
use Rattle.literals.proofs.BuiltinLaws.{ready_token}
use Rattle.clauses.specs.declared.heads.HeadsRead.{HeadsRead}
use Rattle.clauses.specs.declared.body.BodyRead.{BodyRead}
use Rattle.clauses.specs.Heads.{ReadyRule, ReadyHeads, HeadsGo}
use Rattle.clauses.specs.Bodies.{ReadyBody, Body, BodyStops}
use Rattle.clauses.specs.Clauses.{RuleGoes, RuleEnds, RuleStops, bodied_rule}
use Rattle.clauses.proofs.RowLaws.{rows_kept}
use Rattle.clauses.proofs.BodyLaws.{literals_many}

-- the first rule is none too many
first_fits : too_many false (rule (suc (count {A = Tree false} empty))) ≡ false
unfolding too_many count
first_fits = refl

-- heads stay while the table of names grows and rows behind theirs are stored
heads_stay : (program output : Bytes) {names names' : List ℕ} {n a b : ℕ} {literals literals' : List ℕ} → Grows program output names n names' → Kept a b literals literals' → (first : ℕ) (hs : List (Atom (Term Value))) → (first + length hs) * literal_stride ≤ a → HeadsCoded (names_of program output names) literals first hs → HeadsCoded (names_of program output names') literals' first hs
heads_stay program output grows kept first hs before coded = rw (rows_kept kept first (length hs) before) (pairwise_more _ (λ row a h. keeps_atom program output grows _ _ h) coded)

module _ (program output : Bytes) (names variables literals : List ℕ) (k : Cursor) (number : ℕ) where
  ahead : (p : Program false) → behind_rules false program p k.at.start ≡ (from false program (wants (atom_wanted (head_behind p))) [] k.at.start).answer
  unfolding variables_of
  ahead p = same_walk false _ _ [] _

  -- ---- by the first token

  module _ (asked : ReadyRule program output names variables literals k number) (t : TokenRead) (et : t ≡ token_read false program k.at.start) where
    pub rule_ended : t.kind ≡ 20 → RuleEnds program names literals k names literals
    unfolding finished finished_atom
    rule_ended ek = record { same_names = refl; same_literals = refl; answer = λ p. ahead p ∙ at_end false program k.at.start t et (wants (atom_wanted (head_behind p))) [] p ek refl }

    -- `:-` with no head
    module _ (ek : t.kind ≡ 9) where
      if_step : (p : Program false) → try (wants (atom_wanted (head_behind p))).next (token_by 9 (part program t.place)) ≡ some (record { mark = rule (suc (count p)); state = atom_wanted (literal_in (new_body tt p none)) })
      unfolding moves else_wanted free_moves try fire either when token_of symbol_number atom_mark
      if_step p = refl

      pub if_over : k.over ≡ true → RuleStops program k (record { refusal = OverSize; place = t.place })
      unfolding token_of too_big
      if_over o = record { refuses = omega arith; answer = λ h. ahead h.rules ∙ over_kind false program k.at.start t et 9 ek (λ z. omega arith) (wants (atom_wanted (head_behind h.rules))) [] (record { mark = rule (suc (count h.rules)); state = atom_wanted (literal_in (new_body tt h.rules none)) }) 4 (if_step h.rules) (inv (fault_many _ _ _ _ refl (h.size ∙ o))) (λ z. omega arith) }

      module _ (o : k.over ≡ false) where
        -- the cursor of its body
        abbrev if_behind : Cursor
        if_behind = onward k (past t.place) false 0

        pub ready_if : ReadyBody program output names variables literals if_behind (number * rule_rows + most_heads)
        ready_if =
            let y = (ready_token program output names variables k asked.ready t et (λ z. let y : ◌≡◌ {A = ℕ} 9 20 = inv ek ∙ z in omega arith)).ready in
            record { ready = record { ready = record { source = y.source; short = y.short; stands = y.stands; room = y.room; few = omega arith; long = y.long }; in_program = asked.ready.in_program }; long = let l = asked.long o in omega arith }

        if_on : (p : Program false) → too_many false (rule (suc (count p))) ≡ k.over → from false program (wants (atom_wanted (head_behind p))) [] k.at.start ≡ from false program (wants (atom_wanted (literal_in (new_body tt p none)))) [] (next_of t)
        unfolding token_of too_big too_long too_many_variables is_underscore meet meet_symbol token_number symbol_number
        if_on p s = on_kind false program k.at.start t et 9 ek (λ z. omega arith) (wants (atom_wanted (head_behind p))) [] [] (record { mark = rule (suc (count p)); state = atom_wanted (literal_in (new_body tt p none)) }) (if_step p) (fault_none _ _ _ _ refl refl (s ∙ o) refl) (meets_none program (token_by 9 (part program t.place)) t.place [] refl refl)

        pub if_stops : (e : Refused) → BodyStops program variables if_behind e → RuleStops program k e
        unfolding places_in
        if_stops e w = record { refuses = w.refuses; answer = λ h. ahead h.rules ∙ ap (λ y. y.answer) (if_on h.rules h.size) ∙ w.answer h.rules none }

        pub if_goes : (b : BodyRead) (names' variables' literals' : List ℕ) → Body program output names variables literals if_behind (number * rule_rows + most_heads) b names' variables' literals' → RuleGoes program output names variables literals k number (bodied_rule 0 b) names' variables' literals'
        unfolding variables_of rule_for count places_in tables.from
        if_goes b names' variables' literals' w =
            let l = forward false program k.at.start t et (λ q. let z : ◌≡◌ {A = ℕ} 9 20 = inv ek ∙ q in omega arith) in
            let f = w.forward in
            record {
              kept = o;
              rule = clause tt none w.before w.final;
              stands =
                  record {
                    forward = omega arith;
                    placed = w.placed;
                    few_heads = omega arith;
                    heads_size = refl;
                    few = w.few;
                    size = w.size ∙ inv (literals_many [] (w.before then w.final));
                    kept = kept_wider w.kept (number * rule_rows * literal_stride) ((number * rule_rows + rule_rows) * literal_stride) (omega arith) (omega arith);
                    stands = codes_wider _ (omega arith) (record { grows = w.stands.grows; coded = (end, w.stands.coded) });
                    fits = w.fits;
                    firsts = ap (λ y. y.firsts) (if_on empty (first_fits ∙ inv o)) ∙ w.firsts;
                    rest = ap (λ y. y.rest) (if_on empty (first_fits ∙ inv o)) ∙ w.rest;
                  };
              ahead = λ h. ahead h.rules ∙ ap (λ y. y.answer) (if_on h.rules h.size) ∙ w.walks h.rules none;
            }

  -- ---- by the token behind its heads

  module _ (first : TokenRead) (asked : ReadyHeads program output names variables literals k (record { number = number; token = first })) where
    -- behind these rules
    place : (p : Program false) → too_many false (rule (suc (count p))) ≡ k.over → HeadsPlace false k.over program k.at.start
    place p size = record { rules = p; size = size; no_if = λ z. asked.no_if (ap (λ t. t.kind) asked.is_token ∙ z); no_end = λ z. asked.no_end (ap (λ t. t.kind) asked.is_token ∙ z) }

    -- they are refused
    pub rule_stops : (e : Refused) → Stops (heads_in false k.over program k.at.start) program k.at.start [] e → RuleStops program k e
    unfolding place
    rule_stops e w = record { refuses = w.refuses; answer = λ h. ahead h.rules ∙ w.answer (place h.rules h.size) }

    module _ (w : HeadsRead) (names₁ variables₁ literals₁ : List ℕ) (g : HeadsGo program output names literals k number w names₁ variables₁ literals₁) where
      abbrev heads : Heads false
      heads = g.reads.tree

      abbrev v : List Place
      v = places_in variables₁ w.met

      -- they are read: so the rule is not one too many
      pub rule_room : k.over ≡ false
      rule_room = g.reads.kept

      heads_on : (p : Program false) → too_many false (rule (suc (count p))) ≡ k.over → from false program (wants (atom_wanted (head_behind p))) [] k.at.start ≡ from false program (behind_heads p heads) v g.place.start
      unfolding place
      heads_on p size = g.reads.ahead (place p size)

      -- behind the token there
      passed : (n : ℕ) → w.token.kind ≡ n → (n ≡ 20 → ⊥) → g.place.start ≤ next_of w.token
      passed n ek nk = let l = forward false program g.place.start w.token g.is_token (λ q. nk (inv ek ∙ q)) in omega arith

      -- a dot: the rule has no body
      pub rule_fact : w.token.kind ≡ 8 → RuleGoes program output names variables literals k number (record { heads = w.count; count = 0; behind = past w.token.place; met = w.met }) names₁ variables₁ literals₁
      unfolding variables_of rule_for tables.from
      rule_fact ek =
          let l = passed 8 ek (λ z. omega arith) in
          let f = g.reads.forward in
          let s = g.reads.means in
          let dot = heads_dot false program g.place.start w.token g.is_token v ek in
          let first = heads_on empty (first_fits ∙ inv rule_room) in
          record {
            kept = rule_room;
            rule = fact heads;
            stands =
                record {
                  forward = omega arith;
                  placed = past_here false program g.place.start w.token g.is_token (λ q. refl);
                  few_heads = s.few;
                  heads_size = s.size;
                  few = omega arith;
                  size = refl;
                  kept = kept_wider s.kept (number * rule_rows * literal_stride) ((number * rule_rows + rule_rows) * literal_stride) (omega arith) (omega arith);
                  stands = codes_wider _ (omega arith) (record { grows = s.stands.grows; coded = (s.stands.coded, end) });
                  fits = g.reads.fits;
                  firsts = ap (λ y. y.firsts) first ∙ (dot empty heads).1;
                  rest = ap (λ y. y.rest) first ∙ (dot empty heads).2;
                };
            ahead = λ h. ahead h.rules ∙ ap (λ y. y.answer) (heads_on h.rules h.size) ∙ (dot h.rules heads).0;
          }

      -- neither a dot nor `:-`, and no `|`
      pub rule_wrong : (w.token.kind ≡ 8 → ⊥) → (w.token.kind ≡ 9 → ⊥) → RuleStops program k (record { refusal = Misplaced; place = w.token.place })
      rule_wrong no_dot no_if = record { refuses = omega arith; answer = λ h. ahead h.rules ∙ ap (λ y. y.answer) (heads_on h.rules h.size) ∙ heads_wrong program g.place.start w.token g.is_token v no_dot no_if g.no_bar h.rules heads }

      -- `:-`: a body
      module _ (ek : w.token.kind ≡ 9) where
        abbrev body_behind : Cursor
        body_behind = onward k (past w.token.place) false w.met

        pub ready_body : length variables₁ ≡ length variables → ReadyBody program output names₁ variables₁ literals₁ body_behind (number * rule_rows + most_heads)
        ready_body long =
            let l = passed 9 ek (λ z. omega arith) in
            let f = g.reads.forward in
            let s = g.reads.means in
            record {
              ready = record { ready = ready_on asked.rule.ready.ready body_behind refl (grows_then program output s.stands.grows _ (grows_none program output names₁ 0 s.stands.grows.in_order) (omega arith)) (omega arith) (past_here false program g.place.start w.token g.is_token (λ q. refl)) (fits_met variables₁ w.met g.reads.fits) long; in_program = asked.rule.ready.in_program };
              long = let y = asked.rule.long rule_room in let e = s.kept.long in omega arith;
            }

        body_on : (p : Program false) → too_many false (rule (suc (count p))) ≡ k.over → from false program (wants (atom_wanted (head_behind p))) [] k.at.start ≡ from false program (wants (atom_wanted (literal_in (new_body tt p (some heads))))) v (next_of w.token)
        body_on p size = heads_on p size ∙ heads_if program g.place.start w.token g.is_token v ek p heads

        pub body_stops : (e : Refused) → BodyStops program variables₁ body_behind e → RuleStops program k e
        body_stops e b = record { refuses = b.refuses; answer = λ h. ahead h.rules ∙ ap (λ y. y.answer) (body_on h.rules h.size) ∙ b.answer h.rules (some heads) }

        pub body_goes : (b : BodyRead) (names₂ variables₂ literals₂ : List ℕ) → Body program output names₁ variables₁ literals₁ body_behind (number * rule_rows + most_heads) b names₂ variables₂ literals₂ → RuleGoes program output names variables literals k number (bodied_rule w.count b) names₂ variables₂ literals₂
        unfolding variables_of rule_for count
        body_goes b names₂ variables₂ literals₂ j =
            let l = passed 9 ek (λ z. omega arith) in
            let l' = j.forward in
            let f = g.reads.forward in
            let s = g.reads.means in
            let first = body_on empty (first_fits ∙ inv rule_room) in
            record {
              kept = rule_room;
              rule = clause tt (some heads) j.before j.final;
              stands =
                  record {
                    forward = omega arith;
                    placed = j.placed;
                    few_heads = s.few;
                    heads_size = s.size;
                    few = j.few;
                    size = j.size ∙ inv (literals_many _ (j.before then j.final));
                    kept = kept_then (kept_wider s.kept (number * rule_rows * literal_stride) ((number * rule_rows + rule_rows) * literal_stride) (omega arith) (omega arith)) (kept_wider j.kept (number * rule_rows * literal_stride) ((number * rule_rows + rule_rows) * literal_stride) (omega arith) (omega arith));
                    stands = record { grows = grows_then program output s.stands.grows _ j.stands.grows (omega arith); coded = (heads_stay program output j.stands.grows j.kept (number * rule_rows) (heads_for heads) (let y = s.size in let few = s.few in omega arith) s.stands.coded, rw g.reads.names j.stands.coded) };
                    fits = j.fits;
                    firsts = ap (λ y. y.firsts) first ∙ j.firsts;
                    rest = ap (λ y. y.rest) first ∙ j.rest;
                  };
              ahead = λ h. ahead h.rules ∙ ap (λ y. y.answer) (body_on h.rules h.size) ∙ j.walks h.rules (some heads);
            }
