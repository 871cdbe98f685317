-- What the function that reads a body returns. The loop's invariant: the rows so far stand for the literals that have been read as far as
-- here.
use mathlib.Core.Path.{◌≡◌, refl, ap, ◌∙◌, sym as inv}
use mathlib.Core.Bool.{Bool, true, false}
use mathlib.Core.Option.{Option, none, some}
use mathlib.Core.List.{List, [], ◌∷◌}
use Prim.Native.Nat.{ℕ, suc, ◌+◌, ◌-◌, ◌*◌, ◌≤◌, ◌<◌}
use native.Mathlib.Omega.{arith}
use native.Mathlib.Numerals.{add-one}
use lib.Dec.{leb}
use lib.ListN.{length, length-append}
use borrow.Author.Tests.{ne_eqb, leb-false}
use Rattle.std.specs.Prelude.{Ok}
use Rattle.texts.specs.declared.place.Place.{Place}
use Rattle.texts.specs.declared.refusal.Refused.{Refused}
use Rattle.texts.specs.Place.{Stands}
use Rattle.texts.specs.Places.{places_in}
use Rattle.texts.specs.Parts.{part}
use Rattle.reading.specs.Machine.{walk}
use Rattle.meaning.specs.Rules.{Bytes}
use Rattle.grammar.specs.Trees.{Sequence, empty, ◌then◌, count, Literal as LiteralTree, Heads, Program}
use Rattle.grammar.specs.Spelling.{inside, literal, with_commas, spell_nth_literal}
use Rattle.grammar.specs.Variables.{Variables as Names, meet_symbol, meet, met}
use Rattle.grammar.specs.Abstraction.{literal_for, literals_for}
use Rattle.grammar.specs.Sizes.{too_big, too_long, too_many, is_underscore, too_many_variables, language, most_literals}
use Rattle.grammar.specs.States.{BodyContext, head_behind, literal_in, atom_wanted}
use Rattle.grammar.specs.Moves.{symbol_number, token_number, when, fire, either, try}
use Rattle.grammar.specs.Machine.{new_body, with_rule, after_literal}
use Rattle.grammar.proofs.Numbers.{try_number, fire_number}
use Rattle.grammar.proofs.Variables.{met_literal}
use Rattle.codes.specs.Related.{Pairwise, end}
use Rattle.codes.proofs.Pairwise.{pairwise_more}
use Rattle.names.specs.Table.{names_of}
use Rattle.tables.specs.Rows as tables
use Rattle.tables.specs.Layout.{literal_stride}
use Rattle.tables.specs.Stored.{with_row, Kept, row_at}
use Rattle.tables.specs.Coded.{CodedLiteral}
use Rattle.tables.proofs.Stored.{kept_self, kept_then, kept_wider}
use Rattle.syntax.specs.declared.token.TokenRead.{TokenRead}
use Rattle.syntax.specs.declared.separator.Separator.{Separator}
use Rattle.syntax.specs.Text.{token_of, placed_from, end_of, token_read, next_of}
use Rattle.syntax.specs.Variables.{variables_of, Fits}
use Rattle.syntax.specs.Ahead.{Wants, wants, wanting, from}
use Rattle.syntax.specs.Fills.{Stops}
use Rattle.syntax.specs.Arguments.{Separated, NotSeparated}
use Rattle.syntax.specs.Builtins.{behind_literal}
use Rattle.syntax.specs.Literals.{LiteralPlace, literal_in_body}
use Rattle.syntax.proofs.Tokens.{token_by, forward, past_here}
use Rattle.syntax.proofs.Steps.{same_walk, meets_none, on_kind, wrong_token, dot_token}
use Rattle.syntax.proofs.Sizes.{fault_none}
use Rattle.syntax.proofs.Lists.{too_many_next, met_then}
use Rattle.rows.specs.Growth.{Grows}
use Rattle.rows.proofs.Growth.{grows_none, grows_then, keeps_literal}
use Rattle.terms.specs.declared.cursor.Cursor.{Cursor}
use Rattle.terms.specs.Cursors.{met_before, onward}
use Rattle.terms.proofs.Readiness.{met_fits, fits_met, ready_on, codes_wider}
use Rattle.literals.specs.declared.builtin.LiteralRead.{LiteralRead}
use Rattle.literals.specs.Builtins.{ReadyBehind}
use Rattle.literals.specs.Literals.{ReadsLiteral}
use Rattle.clauses.specs.Bodies.{ReadyBody, BodyStops, FillsBody}
use Rattle.clauses.proofs.RowLaws.{row_kept, row_more}

-- a body behind these literals
abbrev body_with : Program false → Option (Heads false) → Sequence (LiteralTree false) → BodyContext false
body_with p h ls = record { free = tt; rules = p; head = h; literals = ls }

-- the literals are as many
pub literals_many : (vs : Names) (ls : Sequence (LiteralTree false)) → length (literals_for vs ls) ≡ count ls
unfolding literals_for count
literals_many vs empty = refl
literals_many vs (ls then l) = length-append (literals_for vs ls) (literal_for (met vs (with_commas spell_nth_literal ls)) l ∷ []) ∙ add-one _ ∙ ap suc (literals_many vs ls)

-- the cursor where the next literal stands
abbrev pub at_literal : Cursor → Place → ℕ → ℕ → Cursor
at_literal k at met n = onward k at (leb 16 n) met

pub record Going (program output : Bytes) (names₀ variables₀ literals₀ : List ℕ) (k : Cursor) (first : ℕ) (names variables literals : List ℕ) (at : Place) (met₁ n : ℕ) : Type 0 where
  pub fits : Fits (places_in variables met₁)
  pub few : n ≤ most_literals
  pub names_long : length names ≡ length names₀
  pub long : length variables ≡ length variables₀
  pub literals_long : length literals ≡ length literals₀
  pub onward : k.at.start ≤ at.start
  pub placed : Stands program at
  pub grows : Grows program output names₀ (at.start - k.at.start) names
  pub kept : Kept (first * literal_stride) ((first + most_literals) * literal_stride) literals₀ literals
  pub before : Sequence (LiteralTree false)
  pub size : count before ≡ n
  pub coded : Pairwise (CodedLiteral (names_of program output names)) (tables.from (row_at literals) n first) (literals_for (variables_of program (met_before variables₀ k)) before)
  pub variables_met : met (variables_of program (met_before variables₀ k)) (with_commas spell_nth_literal before) ≡ variables_of program (places_in variables met₁)
  pub walks : (p : Program false) (h : Option (Heads false)) → from false program (wants (atom_wanted (literal_in (new_body tt p h)))) (met_before variables₀ k) k.at.start ≡ from false program (wants (atom_wanted (literal_in (body_with p h before)))) (places_in variables met₁) at.start

pub going_start : (program output : Bytes) (names variables literals : List ℕ) (k : Cursor) (first : ℕ) → ReadyBody program output names variables literals k first → Going program output names variables literals k first names variables literals k.at k.met 0
unfolding count literals_for met with_commas tables.from
going_start program output names variables literals k first asked =
    record {
      fits = met_fits asked.ready.ready;
      few = omega arith;
      names_long = refl;
      long = refl;
      literals_long = refl;
      onward = omega arith;
      placed = asked.ready.ready.stands;
      grows = grows_none program output names _ asked.ready.ready.room.in_order;
      kept = kept_self (first * literal_stride) ((first + most_literals) * literal_stride) literals;
      before = empty;
      size = refl;
      coded = end;
      variables_met = refl;
      walks = λ p h. refl;
    }

module _ (program output : Bytes) (names₀ variables₀ literals₀ : List ℕ) (k : Cursor) (first : ℕ) (names variables literals : List ℕ) (at : Place) (met₁ n : ℕ) (g : Going program output names₀ variables₀ literals₀ k first names variables literals at met₁ n) where
  abbrev v₀ : List Place
  v₀ = met_before variables₀ k

  -- there is room behind what has been read
  pub going_ready : ReadyBody program output names₀ variables₀ literals₀ k first → (over : Bool) → ReadyBehind program output names variables (onward k at over met₁)
  going_ready asked over = record { ready = ready_on asked.ready.ready (onward k at over met₁) refl g.grows g.onward g.placed (fits_met variables met₁ g.fits) g.long; in_program = asked.ready.in_program }

  place : Program false → Option (Heads false) → LiteralPlace (leb 16 n)
  unfolding too_many
  place p h = record { body = body_with p h g.before; size = rw g.size (too_many_next 16 n) }

  -- the literal is refused
  pub going_stops : (e : Refused) → Stops (literal_in_body (leb 16 n)) program at.start (places_in variables met₁) e → BodyStops program variables₀ k e
  unfolding place
  going_stops e w = record { refuses = w.refuses; answer = λ p h. ap (λ y. y.answer) (g.walks p h) ∙ w.answer (place p h) }

  -- it is read: so there was room
  module _ (r : LiteralRead) (names' variables' : List ℕ) (gr : ReadsLiteral program output names variables (at_literal k at met₁ n) (Ok r) names' variables') where
    pub going_room : n < most_literals
    going_room = leb-false 16 n gr.kept

    pub going_fits : (first + most_literals) * literal_stride ≤ length literals₀ → (first + n) * literal_stride + literal_stride ≤ length literals
    going_fits long = let y = going_room in let l = g.literals_long in omega arith

    -- the literals with this one
    abbrev literals_one : Sequence (LiteralTree false)
    literals_one = g.before then gr.tree

    abbrev v' : List Place
    v' = places_in variables' r.met

    onward_one : k.at.start ≤ r.behind.start
    onward_one = omega (arith, g.onward, gr.forward)

    grows_one : Grows program output names₀ (r.behind.start - k.at.start) names'
    grows_one = grows_then program output g.grows (r.behind.start - k.at.start) gr.means.grows (omega (arith, g.onward, gr.forward))

    variables_one : met (variables_of program v₀) (with_commas spell_nth_literal literals_one) ≡ variables_of program v'
    variables_one = met_then spell_nth_literal (variables_of program v₀) g.before gr.tree ∙ rw g.variables_met (met_literal (literal (suc (count g.before))) inside (variables_of program (places_in variables met₁)) gr.tree ∙ gr.names)

    -- behind this one
    abbrev wants_one : Program false → Option (Heads false) → Wants false
    wants_one p h = behind_literal (body_with p h g.before) gr.tree

    walks_one : (p : Program false) (h : Option (Heads false)) → from false program (wants (atom_wanted (literal_in (new_body tt p h)))) v₀ k.at.start ≡ from false program (wants_one p h) v' r.behind.start
    unfolding place
    walks_one p h = g.walks p h ∙ gr.ahead (place p h)

    abbrev t : TokenRead
    t = token_read false program r.behind.start

    -- neither a comma nor a dot
    pub going_wrong : (e : Refused) → NotSeparated false program r.behind.start 8 e → BodyStops program variables₀ k e
    unfolding after_literal try_number fire_number either when symbol_number
    going_wrong e w = rw w.is_refused (record { refuses = omega arith; answer = λ p h. ap (λ a. a.answer) (walks_one p h) ∙ wrong_token false program r.behind.start t refl (wants_one p h) v' (rw (ne_eqb t.kind 7 w.no_comma, ne_eqb t.kind 8 w.no_mark)) (λ z. refl) })

    behind : (j : ℕ) → t.kind ≡ j → (j ≡ 20 → ⊥) → r.behind.start ≤ next_of t
    behind j y nj = let l = forward false program r.behind.start t refl (λ q. nj (inv y ∙ q)) in omega arith

    module _ (long : (first + most_literals) * literal_stride ≤ length literals₀) (twelve : length r.row ≡ literal_stride) (literals' : List ℕ) (stored : literals' ≡ with_row literals ((first + n) * literal_stride) r.row) (d : Separator) (gd : Separated false program r.behind.start 8 d) where
      kept_one : Kept (first * literal_stride) ((first + most_literals) * literal_stride) literals₀ literals'
      kept_one = kept_then g.kept (kept_wider (row_kept first n r.row literals twelve (going_fits long) literals' stored) (first * literal_stride) ((first + most_literals) * literal_stride) (omega arith) (let y = going_room in omega arith))

      coded_one : Pairwise (CodedLiteral (names_of program output names')) (tables.from (row_at literals') (n + 1) first) (literals_for (variables_of program v₀) literals_one)
      unfolding literals_for
      coded_one = rw g.variables_met (row_more first n r.row literals twelve (going_fits long) literals' stored (pairwise_more _ (λ a y z. record { related = keeps_literal program output gr.means.grows _ _ z.related; side = z.side }) g.coded) gr.means.coded)

      -- the last literal
      pub going_end : d.last ≡ true → FillsBody program output names₀ variables₀ literals₀ k first (Ok (record { count = n + 1; behind = d.behind; met = r.met })) names' variables' literals'
      unfolding after_literal try fire either when symbol_number too_big too_long too_many too_many_variables is_underscore count
      going_end l =
          let y = (gd.last l).1 in
          let b = behind 8 y (λ a. omega arith) in
          rw gd.behind
          (record {
            forward = omega (arith, onward_one, b);
            placed = past_here false program r.behind.start t refl (λ q. refl);
            fits = gr.fits;
            before = g.before;
            final = gr.tree;
            size = many;
            few = let a = going_room in omega arith;
            kept = kept_one;
            stands = codes_wider _ (omega (arith, onward_one, b)) (record { grows = grows_one; coded = rw size coded_one });
            variables_met = variables_one;
            walks = λ p h. ap (λ a. a.answer) (walks_one p h) ∙ (dotted y p h).0 ∙ inv (same_walk false _ _ [] _);
            firsts = ap (λ a. a.firsts) (walks_one empty none) ∙ (dotted y empty none).1;
            rest = ap (λ a. a.rest) (walks_one empty none) ∙ (dotted y empty none).2;
          })
        where
          many : n + 1 ≡ suc (count g.before)
          many = add-one n ∙ ap suc (inv g.size)

          size : length (literals_for (variables_of program v₀) literals_one) ≡ n + 1
          size = literals_many (variables_of program v₀) literals_one ∙ inv many

          dotted : t.kind ≡ 8 → (p : Program false) (h : Option (Heads false)) → ((from false program (wants_one p h) v' r.behind.start).answer ≡ walk (language false) (wanting false) (wants (atom_wanted (head_behind (with_rule (body_with p h g.before) gr.tree)))) [] (end_of program) (placed_from false program (next_of t))) × ((from false program (wants_one p h) v' r.behind.start).firsts ≡ v') × ((from false program (wants_one p h) v' r.behind.start).rest ≡ some (placed_from false program (next_of t)))
          dotted y p h = dot_token false program r.behind.start t refl y (wants_one p h) v' (record { mark = inside; state = atom_wanted (head_behind (with_rule (body_with p h g.before) gr.tree)) }) refl (fault_none _ _ _ _ refl refl refl refl)

      -- a comma: one more is wanted
      pub going_on : length names' ≡ length names₀ → length variables' ≡ length variables₀ → d.last ≡ false → Going program output names₀ variables₀ literals₀ k first names' variables' literals' d.behind r.met (n + 1)
      unfolding after_literal try fire either when token_of symbol_number token_number too_big too_long too_many too_many_variables is_underscore meet meet_symbol count
      going_on names_long variables_long l =
          let y = gd.comma l in
          let b = behind 7 y (λ a. omega arith) in
          rw gd.behind
          (record {
            fits = gr.fits;
            few = let a = going_room in omega arith;
            names_long = names_long;
            long = variables_long;
            literals_long = kept_one.long;
            onward = omega (arith, onward_one, b);
            placed = past_here false program r.behind.start t refl (λ q. refl);
            grows = grows_then program output grows_one _ (grows_none program output names' 0 grows_one.in_order) (omega (arith, onward_one, b));
            kept = kept_one;
            before = literals_one;
            size = ap suc g.size ∙ inv (add-one n);
            coded = coded_one;
            variables_met = variables_one;
            walks = λ p h. walks_one p h ∙ on_kind false program r.behind.start t refl 7 y (λ a. omega arith) (wants_one p h) v' v' _ refl (fault_none _ _ _ _ refl refl refl refl) (meets_none program (token_by 7 (part program t.place)) t.place v' refl refl);
          })
