-- The loop over the facts of a line: those before this one have their rows and their places, and what lies ahead of them is what lies ahead
-- of the line.
use mathlib.Core.Path.{◌≡◌, refl, ap, ap₂, subst, ◌∙◌, sym as inv}
use mathlib.Core.Bool.{Bool, true, false, cond}
use mathlib.Core.Option.{some}
use mathlib.Core.List.{List, [], ◌∷◌, ◌++◌}
use Prim.Native.Nat.{ℕ, suc, ◌+◌, ◌*◌, ◌-◌, ◌≤◌, ◌<◌}
use native.Mathlib.Omega.{arith}
use native.Mathlib.Numerals.{add-one}
use lib.Dec.{leb, ltb, eqb}
use lib.ListN.{length, get_or, set, length-set, length-take, length-drop}
use lib.Seq.{take-suc-set, take-set-le, drop-set-lt, get_or-set_same, get_or-set_other}
use borrow.Author.Tests.{eqb-true, eqb-false, ltb-true, ltb-false, leb-false}
use Rattle.std.specs.Prelude.{Ok, Option}
use Rattle.texts.specs.declared.place.Place.{Place}
use Rattle.texts.specs.declared.refusal.Refused.{Refused}
use Rattle.texts.specs.Place.{text_start, with_len, Stands as PlaceStands}
use Rattle.texts.specs.Parts.{part}
use Rattle.reading.specs.Reading.{Placed, Answer}
use Rattle.reading.proofs.Lists.{none_some, some_inj}
use Rattle.texts.specs.Places.{span_from}
use Rattle.texts.proofs.Counting.{start_stands}
use Rattle.terms.specs.Cursors.{variables_size}
use Rattle.meaning.specs.Sets.{In}
use Rattle.meaning.specs.Rules.{Bytes, Rule as MeantRule}
use Rattle.meaning.specs.Values.{Value}
use Rattle.grammar.specs.Tokens.{Token}
use Rattle.grammar.specs.Trees.{empty, ◌then◌, count, Atom, head, fact, Program}
use Rattle.grammar.specs.Sizes.{too_many}
use Rattle.grammar.specs.Abstraction.{atom_for, heads_for, rule_for, fact_for, facts_for}
use Rattle.grammar.proofs.Facts.{fact_rule, fact_is_rule}
use Rattle.syntax.specs.Text.{placed_from, end_of, token_read}
use Rattle.syntax.specs.Ahead.{ends_rule, dot_at}
use Rattle.syntax.specs.Rules.{behind_rules, RulePlace}
use Rattle.syntax.specs.Programs.{ReadAs}
use Rattle.syntax.proofs.Lists.{too_many_next}
use Rattle.syntax.proofs.Programs.{reading_of}
use Rattle.rule_places.specs.Sentences.{dot_end, sentence}
use Rattle.rule_places.proofs.Dots.{Reached, reached_start, reached_on, reached_sentence, start_before, first_to_dot}
use Rattle.codes.specs.Codes.{no_value, Coded}
use Rattle.codes.specs.Predicates.{CodedName}
use Rattle.codes.specs.Related.{Pairwise, end, pair, RelatedAtom}
use Rattle.codes.proofs.Pairwise.{pairwise_append}
use Rattle.tables.specs.Layout.{fact_stride}
use Rattle.tables.specs.Rows.{from, fact_predicate, fact_arguments, facts_of}
use Rattle.tables.specs.Stored.{Kept}
use Rattle.tables.proofs.Stored.{kept_self, kept_then, kept_wider}
use Rattle.tables.proofs.Strides.{from_on}
use Rattle.names.specs.Texts.{bytes_at}
use Rattle.names.specs.Table.{names_of}
use Rattle.names.proofs.Standing.{in_output, own_length}
use Rattle.rows.specs.Growth.{Room, Source, Grows}
use Rattle.rows.specs.Coding.{CodedAtom}
use Rattle.rows.proofs.Growth.{grows_none, grows_then, room_after, keeps_facts}
use Rattle.terms.specs.declared.cursor.Cursor.{Cursor}
use Rattle.terms.specs.Cursors.{ReadyCursor}
use Rattle.factline.specs.declared.fact.FactRead.{FactRead}
use Rattle.factline.specs.Facts.{FactGoes, LineEnds, FactStops, ReadsFact}
use Rattle.factline.specs.Lines.{most_facts, Puttable, Put, Fillable, Listed, Holds, Filled, LineRefused, RowsHeld}
use Rattle.factline.proofs.FactRows.{as_atom, FactStored, fact_stored, same_arguments, facts_with}

-- ---- a table of places

holds_none : (f : ℕ → ℕ) (l : List ℕ) → Holds f 0 l l
holds_none f l = record { same_size = refl; first = λ k h. absurd (let z : ⊥ = omega arith in z); later = λ k h. refl }

holds_more : (f : ℕ → ℕ) (n : ℕ) (before l : List ℕ) → Holds f n before l → n < length l → (v : ℕ) → v ≡ f n → Holds f (n + 1) before (set l n v)
holds_more f n before l p room v e =
    record {
      same_size = simp length-set p.same_size;
      first = λ k h. one k (ltb k n) refl h;
      later = λ k h. get_or-set_other l n k v 0 (λ q. omega arith) ∙ p.later k (omega arith);
    }
  where
    one : (k : ℕ) (b : Bool) → ltb k n ≡ b → k < n + 1 → get_or (set l n v) k 0 ≡ f k
    one k true q h = let less = ltb-true k n q in get_or-set_other l n k v 0 (λ z. omega arith) ∙ p.first k less
    one k false q h = let same : k ≡ n = omega (arith, ltb-false k n q) in rw same (get_or-set_same l n v 0 room ∙ e)

-- ---- the predicates

pub listed_none : (facts l : List ℕ) → Listed facts 0 l l
unfolding from
listed_none facts l = record { are_predicates = refl; kept = kept_self 0 0 l }

pub listed_more : (facts : List ℕ) (n : ℕ) (before l : List ℕ) → Listed facts n before l → n < length l → (v : ℕ) → v ≡ fact_predicate facts n → Listed facts (n + 1) before (set l n v)
listed_more facts n before l p room v e =
    let changed : Kept n (n + 1) l (set l n v) = record { long = length-set l n v; before = take-set-le n l n v (omega arith); behind = drop-set-lt (n + 1) l n v (omega arith) } in
    record {
      are_predicates =
          rw (add-one n) (take-suc-set l n v room)
          ∙ ap₂ (λ (a b : List ℕ). a ++ b) p.are_predicates (ap (λ (q : ℕ). q ∷ []) e)
          ∙ inv (from_on (fact_predicate facts) (fact_predicate facts) n (λ k h. refl));
      kept = kept_then (kept_wider p.kept 0 (n + 1) (omega arith) (omega arith)) (kept_wider changed 0 (n + 1) (omega arith) (omega arith));
    }

-- ---- the place of a fact, and the atom of its tree

dot_ends : (final : Place) (ts : List (Placed Place Token)) (p : Place) → dot_at ts ≡ some p → dot_end final ts ≡ p.start + p.len
unfolding dot_at dot_end
dot_ends final [] p e = absurd (none_some e)
dot_ends final (t ∷ ts) p e = go (ends_rule t.token) refl e (dot_ends final ts p)
  where
    go : (b : Bool) → ends_rule t.token ≡ b → cond b (some t.place) (dot_at ts) ≡ some p → (dot_at ts ≡ some p → dot_end final ts ≡ p.start + p.len) → cond (ends_rule t.token) (t.place.start + t.place.len) (dot_end final ts) ≡ p.start + p.len
    go true q h rec = rw (q, some_inj h)
    go false q h rec = rw q (rec h)

atom_meant : (x : Atom true) → atom_for [] x ≡ as_atom (fact_for (fact (head x)))
unfolding rule_for heads_for fact_rule
atom_meant x = let e : atom_for [] x ∷ [] ≡ as_atom (fact_for (fact (head x))) ∷ [] = ap (λ (m : MeantRule Value). m.heads) (fact_is_rule (fact (head x))) in cc

-- ---- the loop

-- what a fact's reader answers, by where the cursor stands and what was read
pub seen : (program output text : Bytes) (names : List ℕ) {k k' : Cursor} → k ≡ k' → {x y : Option FactRead} → x ≡ y → (names' : List ℕ) → ReadsFact program output names k.over text k.at.start (Ok x) names' → ReadsFact program output names k'.over text k'.at.start (Ok y) names'
seen program output text names {k' = k'} e {x = x} q names' h =
    subst (λ (z : Option FactRead). ReadsFact program output names k'.over text k'.at.start (Ok z) names') q
    (subst (λ (z : Cursor). ReadsFact program output names z.over text z.at.start (Ok x) names') e h)

pub record Going (program output text : Bytes) (base : ℕ) (names₀ facts₀ starts₀ lengths₀ : List ℕ) (at : Place) (n : ℕ) (names variables facts starts lengths : List ℕ) : Type 0 where
  pub few : n ≤ most_facts
  pub trees : Program true
  pub size : count trees ≡ n
  pub walks : behind_rules true text empty 0 ≡ behind_rules true text trees at.start
  pub placed : PlaceStands text at
  pub reached : Reached true text n at.start
  pub long : length names ≡ length names₀
  pub room_for_variables : length variables ≡ variables_size
  pub grows : Grows program output names₀ at.start names
  pub facts_kept : Kept 0 (n * fact_stride) facts₀ facts
  pub ground : (k : ℕ) → k < n → (v : ℕ) → In v (fact_arguments facts k) → no_value < v
  pub stands : Pairwise (RelatedAtom (CodedName (names_of program output names)) (Coded (names_of program output names))) (facts_of facts n) (facts_for trees)
  pub starts_hold : Holds (λ k. base + (sentence true text k).start) n starts₀ starts
  pub lengths_hold : Holds (λ k. (sentence true text k).len) n lengths₀ lengths

pub going_start : (program output text : Bytes) (base : ℕ) (names variables facts starts lengths : List ℕ) {n : ℕ} → Room program output names n → length variables ≡ variables_size → Going program output text base names facts starts lengths text_start 0 names variables facts starts lengths
unfolding from facts_for count
going_start program output text base names variables facts starts lengths room long =
    record {
      few = omega arith;
      trees = empty;
      size = refl;
      walks = refl;
      placed = start_stands text;
      reached = reached_start true text;
      long = refl;
      room_for_variables = long;
      grows = grows_none program output names 0 room.in_order;
      facts_kept = kept_self 0 0 facts;
      ground = λ k h. absurd (let z : ⊥ = omega arith in z);
      stands = end;
      starts_hold = holds_none _ starts;
      lengths_hold = holds_none _ lengths;
    }

module _ (program output : Bytes) (line : Place) (text : Bytes) (et : text ≡ part output line) (names₀ facts₀ starts₀ lengths₀ : List ℕ) (ask : Fillable program output line names₀ facts₀ starts₀ lengths₀) (at : Place) (n : ℕ) (names variables facts starts lengths : List ℕ) (g : Going program output text line.start names₀ facts₀ starts₀ lengths₀ at n names variables facts starts lengths) where
  no_longer : length text ≤ line.len
  no_longer = rw et (simp (length-take, length-drop) (omega arith))

  -- the line stands in the two texts
  source : Source program output text (length program + line.start)
  source =
      let span = span_from (length program + line.start) line.len in
      let e : bytes_at program output span ≡ text = in_output program output (span_from line.start line.len) ∙ inv et in
      inv e ∙ inv (own_length program output span) ∙ ap (λ (b : Bytes). bytes_at program output (span_from (length program + line.start) (length b))) e

  -- there is room for the names of what lies ahead
  pub going_ready : (ground over : Bool) → ReadyCursor program output text names variables (record { base = length program + line.start; at = at; ground = ground; over = over; met = 0 })
  going_ready ground over =
      let short = no_longer in
      record {
        source = source;
        short = let i = ask.inside in let o = ask.room.in_order.output_size in omega arith;
        stands = g.placed;
        room = room_after program output g.grows (length text - at.start) ask.room (let w = g.placed.inside in omega arith);
        few = omega arith;
        long = let l = g.room_for_variables in omega arith;
      }

  place : RulePlace true (leb 1_024 n)
  unfolding too_many
  place = record { rules = g.trees; size = rw g.size (too_many_next 1_024 n) }

  on_line : (a : Answer Place (Program true)) → behind_rules true text empty 0 ≡ a → ReadAs true (part output line) a
  on_line a e = subst (λ (b : Bytes). ReadAs true b a) et (reading_of true text a e)

  pub line_stops : (e : Refused) → FactStops (leb 1_024 n) text at.start e → LineRefused output line e
  unfolding place
  line_stops e w = record { refuses = w.refuses; reads = on_line _ (g.walks ∙ w.answer place) }

  -- at the end all facts have their rows
  filled : (predicates predicates' : List ℕ) → Listed facts n predicates predicates' → Filled program output line g.trees names₀ facts₀ predicates starts₀ lengths₀ n names facts predicates' starts lengths
  filled predicates predicates' h =
      record {
        size = inv g.size;
        grows = grows_then program output g.grows line.len (grows_none program output names 0 g.grows.in_order) (let w = g.placed.inside in let l = no_longer in omega arith);
        table = record { long = let l = g.facts_kept.long in let k = g.few in let y = ask.facts_long in omega arith; few = g.few; ground = g.ground };
        stands = g.stands;
        are_predicates = h.are_predicates;
        facts_kept = g.facts_kept;
        predicates_kept = h.kept;
        starts_hold = subst (λ (b : Bytes). Holds (λ k. line.start + (sentence true b k).start) n starts₀ starts) et g.starts_hold;
        lengths_hold = subst (λ (b : Bytes). Holds (λ k. (sentence true b k).len) n lengths₀ lengths) et g.lengths_hold;
      }

  pub line_ends : (names' : List ℕ) → LineEnds names text at.start names' → RowsHeld program output line names₀ facts₀ starts₀ lengths₀ n names' facts starts lengths
  line_ends names' w = rw w.same_names (record { few = g.few; held = λ predicates predicates' h. record { trees = g.trees; reads = on_line _ (g.walks ∙ w.answer g.trees); filled = filled predicates predicates' h } })

  -- else another fact stands here
  module _ (r : FactRead) (names' : List ℕ) (w : FactGoes program output names (leb 1_024 n) text at.start r names') where
    pub facts_room : n < most_facts
    facts_room = leb-false 1_024 n w.kept

    walks : behind_rules true text empty 0 ≡ behind_rules true text (g.trees then fact (head w.atom)) r.behind.start
    unfolding place
    walks = g.walks ∙ w.ahead place

    ends_at : dot_end (end_of text) (placed_from true text at.start) ≡ r.behind.start
    ends_at = dot_ends (end_of text) (placed_from true text at.start) w.stands.dot w.stands.dot_is ∙ inv w.stands.ends

    its_place : sentence true text n ≡ with_len (token_read true text at.start).place (r.behind.start - r.start)
    its_place =
        inv (reached_sentence true text n at.start g.reached)
        ∙ first_to_dot true text at.start (token_read true text at.start) refl w.stands.some_token
        ∙ ap₂ (λ (a b : ℕ). with_len (token_read true text at.start).place (b - a)) (inv w.stands.start) ends_at

    its_start : r.start ≡ (sentence true text n).start
    its_start = w.stands.start ∙ inv (ap (λ (p : Place). p.start) its_place)

    forward : r.start ≤ r.behind.start
    forward = let s = start_before true text at.start (token_read true text at.start) refl w.stands.some_token in let a = w.stands.start in let b = ends_at in omega arith

    pub puttable : Puttable facts starts lengths n line.start r
    puttable =
        let m = facts_room in
        record {
          long = let l = g.facts_kept.long in let y = ask.facts_long in omega arith;
          starts_long = let l = g.starts_hold.same_size in let y = ask.starts_long in omega arith;
          lengths_long = let l = g.lengths_hold.same_size in let y = ask.lengths_long in omega arith;
          number_small = m;
          forward = forward;
          small = let i = ask.inside in let o = ask.room.in_order.output_size in let q = w.stands.placed.inside in let l = no_longer in omega arith;
        }

    module _ (facts' starts' lengths' : List ℕ) (put : Put facts starts lengths n line.start r facts' starts' lengths') where
      its_row : FactStored (names_of program output names') facts n (fact_for (fact (head w.atom))) facts'
      its_row = fact_stored (names_of program output names') facts n puttable.long r.codes put.row put.is_row put.nine facts' put.facts_so (fact_for (fact (head w.atom))) (subst (CodedAtom (names_of program output names') r.codes) (atom_meant w.atom) w.stands.codes.coded)

      grounds : (k : ℕ) → k < n + 1 → (v : ℕ) → In v (fact_arguments facts' k) → no_value < v
      grounds k h v m = go (eqb k n) refl
        where
          go : (b : Bool) → eqb k n ≡ b → no_value < v
          go true e = its_row.ground v (rw (eqb-true k n e) at m)
          go false e =
              let q = eqb-false k n e in
              let l : k < n = below q in
              g.ground k l v (rw (same_arguments facts facts' n its_row.kept k l) at m)
            where
              below : (k ≡ n → ⊥) → k < n
              below other = omega arith

      pub going_on : (variables' : List ℕ) → length names' ≡ length names₀ → length variables' ≡ variables_size → Going program output text line.start names₀ facts₀ starts₀ lengths₀ r.behind (n + 1) names' variables' facts' starts' lengths'
      unfolding facts_for count
      going_on variables' long long' =
          let room = facts_room in
          let y = puttable in
          record {
            few = omega arith;
            trees = g.trees then fact (head w.atom);
            size = ap suc g.size ∙ inv (add-one n);
            walks = walks;
            placed = w.stands.placed;
            reached = rw ends_at at (reached_on true text n at.start g.reached);
            long = long;
            room_for_variables = long';
            grows = grows_then program output g.grows r.behind.start w.stands.codes.grows (let f = w.stands.forward in omega arith);
            facts_kept = kept_then (kept_wider g.facts_kept 0 ((n + 1) * fact_stride) (omega arith) (omega arith)) (kept_wider its_row.kept 0 ((n + 1) * fact_stride) (omega arith) (omega arith));
            ground = grounds;
            stands = rw (facts_with facts facts' n its_row.kept) (pairwise_append (keeps_facts program output w.stands.codes.grows g.stands) (pair its_row.stands end));
            starts_hold = rw put.starts_so (holds_more (λ k. line.start + (sentence true text k).start) n starts₀ starts g.starts_hold y.starts_long (line.start + r.start) (ap (λ (i : ℕ). line.start + i) its_start));
            lengths_hold = rw put.lengths_so (holds_more (λ k. (sentence true text k).len) n lengths₀ lengths g.lengths_hold y.lengths_long (r.behind.start - r.start) (inv (ap (λ (p : Place). p.len) its_place)));
          }
