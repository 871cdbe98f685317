-- What the function that reads heads returns. The loop's invariant: the rows so far stand for the heads that have been read as far as here.
use mathlib.Core.Path.{◌≡◌, refl, ◌∙◌, sym as inv}
use mathlib.Core.Bool.{false}
use mathlib.Core.List.{List, [], ◌∷◌}
use Prim.Native.Nat.{ℕ, ◌+◌, ◌-◌, ◌*◌, ◌≤◌, ◌<◌}
use native.Mathlib.Omega.{arith}
use lib.Dec.{leb}
use lib.ListN.{length, length-append}
use borrow.Author.Tests.{leb-false}
use Rattle.std.specs.Prelude.{Ok}
use Rattle.texts.specs.declared.place.Place.{Place}
use Rattle.texts.specs.declared.refusal.Refused.{Refused}
use Rattle.texts.specs.Place.{past}
use Rattle.texts.specs.Places.{places_in}
use Rattle.reading.specs.Reading.{◌▹◌}
use Rattle.meaning.specs.Rules.{Bytes, Term, Atom}
use Rattle.meaning.specs.Values.{Value}
use Rattle.grammar.specs.Sizes.{most_heads}
use Rattle.codes.specs.Related.{end}
use Rattle.codes.proofs.Pairwise.{pairwise_more}
use Rattle.tables.specs.Rows.{atom_with, atom_at}
use Rattle.tables.specs.Rows as tables
use Rattle.tables.specs.Layout.{literal_stride, rule_rows, head_sort}
use Rattle.tables.specs.Stored.{with_row}
use Rattle.tables.specs.Coded.{CodedHead}
use Rattle.tables.proofs.Stored.{kept_self, kept_then, kept_wider}
use Rattle.syntax.specs.declared.token.TokenRead.{TokenRead}
use Rattle.syntax.specs.Text.{token_read, next_of}
use Rattle.syntax.specs.Fills.{Goes, Stops}
use Rattle.syntax.specs.Atoms.{atom_in}
use Rattle.syntax.specs.Heads.{heads_in}
use Rattle.syntax.proofs.Tokens.{forward, past_here}
use Rattle.syntax.proofs.Readings.{stops_as, goes_as}
use Rattle.syntax.proofs.Heads.{first_around, also_around}
use Rattle.rows.specs.declared.literal.AtomCodes.{AtomCodes}
use Rattle.rows.specs.Coding.{CodedAtom}
use Rattle.rows.proofs.Growth.{grows_none, grows_then, keeps_atom}
use Rattle.terms.specs.declared.cursor.Cursor.{Cursor}
use Rattle.terms.specs.Cursors.{met_before, onward}
use Rattle.terms.proofs.Readiness.{fits_met, ready_on, codes_wider}
use Rattle.atoms.specs.declared.atom.AtomRead.{AtomRead}
use Rattle.atoms.specs.Atoms.{AtomStands, ReadsAtom}
use Rattle.literals.specs.Builtins.{ReadyBehind}
use Rattle.clauses.specs.declared.heads.FirstToken.{FirstToken}
use Rattle.clauses.specs.Heads.{ReadyRule, ReadyHeads, HeadsStand, ReadsHeads}
use Rattle.clauses.proofs.RowLaws.{row_kept, row_more}

-- n heads have been read as far as a cursor: none, or some and `|` behind them
pub data SoFar (program output : Bytes) (names₀ literals₀ : List ℕ) (k : Cursor) (number : ℕ) (names variables literals : List ℕ) (here : Cursor) (n : ℕ) : Type 0 where
  none_yet : here.at.start ≡ k.at.start → here.over ≡ k.over → met_before variables here ≡ [] → HeadsStand program output names₀ literals₀ k.at.start number here.at.start n names literals [] → SoFar program output names₀ literals₀ k number names variables literals here n
  behind_bar : (next : Place) (t : TokenRead) → t ≡ token_read false program next.start → t.kind ≡ 23 → here.at.start ≡ next_of t → here.over ≡ leb most_heads n → Goes (heads_in false k.over program k.at.start) k.over program k.at.start [] next (met_before variables here) (HeadsStand program output names₀ literals₀ k.at.start number next.start n names literals) → SoFar program output names₀ literals₀ k number names variables literals here n

pub record Going (program output : Bytes) (names₀ variables₀ literals₀ : List ℕ) (k : Cursor) (number : ℕ) (names variables literals : List ℕ) (here : Cursor) (first : TokenRead) (n : ℕ) : Type 0 where
  pub ready : ReadyBehind program output names variables here
  pub is_token : first ≡ token_read false program here.at.start
  pub names_long : length names ≡ length names₀
  pub long : length variables ≡ length variables₀
  pub literals_long : length literals ≡ length literals₀
  pub so_far : SoFar program output names₀ literals₀ k number names variables literals here n

pub going_start : (program output : Bytes) (names variables literals : List ℕ) (k : Cursor) (s : FirstToken) → ReadyHeads program output names variables literals k s → Going program output names variables literals k s.number names variables literals k s.token 0
unfolding places_in tables.from
going_start program output names variables literals k s asked =
    record {
      ready = asked.rule.ready;
      is_token = asked.is_token;
      names_long = refl;
      long = refl;
      literals_long = refl;
      so_far = none_yet refl refl (rw asked.rule.none_met) (record { size = refl; few = omega arith; kept = kept_self (s.number * rule_rows * literal_stride) ((s.number * rule_rows + most_heads) * literal_stride) literals; stands = record { grows = grows_none program output names _ asked.rule.ready.ready.room.in_order; coded = end } });
    }

-- the row of an atom as a head
coded_head : (names : List Bytes) (codes : AtomCodes) (a : Atom (Term Value)) (row : List ℕ) → row ≡ head_sort ∷ codes.predicate ∷ 0 ∷ codes.terms → CodedAtom names codes a → CodedHead names row a
unfolding atom_with atom_at
coded_head names codes a row er coded = rw er coded.related

module _ (program output : Bytes) (names₀ variables₀ literals₀ : List ℕ) (k : Cursor) (number : ℕ) (asked : ReadyRule program output names₀ variables₀ literals₀ k number) (names variables literals : List ℕ) (here : Cursor) (first : TokenRead) (n : ℕ) (g : Going program output names₀ variables₀ literals₀ k number names variables literals here first n) where
  -- the head is refused
  pub head_stops : (e : Refused) → Stops (atom_in here.ground here.over program here.at.start) program here.at.start (met_before variables here) e → Stops (heads_in false k.over program k.at.start) program k.at.start [] e
  head_stops e w = go g.so_far (rw g.ready.in_program at w)
    where
      go : SoFar program output names₀ literals₀ k number names variables literals here n → Stops (atom_in false here.over program here.at.start) program here.at.start (met_before variables here) e → Stops (heads_in false k.over program k.at.start) program k.at.start [] e
      go (none_yet at over none before) w = stops_as (first_around false k.over program k.at.start) (rw (at, over, none) at w)
      go (behind_bar next t et ek at over heads) w = stops_as (also_around n (λ hs s. inv s.size) t et ek heads) (rw (at, over) at w)

  -- it is read
  module _ (w : AtomRead) (names' variables' : List ℕ) (gr : ReadsAtom program output program names variables here (Ok w) names' variables') where
    -- the heads with this one
    abbrev Reads : (List (Atom (Term Value)) → Type 0) → Type 0
    Reads T = Goes (heads_in false k.over program k.at.start) k.over program k.at.start [] w.behind (places_in variables' w.met) T

    -- those before it, and the place where it begins
    abbrev Before : List (Atom (Term Value)) → Type 0
    Before = HeadsStand program output names₀ literals₀ k.at.start number here.at.start n names literals

    abbrev One : Atom (Term Value) → Type 0
    One = AtomStands program output names here.at.start w names'

    -- the bytes before it and its own are no more than all of them
    abbrev InOrder : Type 0
    InOrder = (here.at.start - k.at.start) + (w.behind.start - here.at.start) ≤ w.behind.start - k.at.start

    in_program : Goes (atom_in false here.over program here.at.start) here.over program here.at.start (met_before variables here) w.behind (places_in variables' w.met) One
    in_program = rw g.ready.in_program at gr

    with_head : {T : List (Atom (Term Value)) → Type 0} → ((hs : List (Atom (Term Value))) (a : Atom (Term Value)) → InOrder → Before hs → One a → T (hs ▹ a)) → Reads T
    with_head {T} stands = go g.so_far
      where
        go : SoFar program output names₀ literals₀ k number names variables literals here n → Reads T
        go (none_yet at over none before) = goes_as (first_around false k.over program k.at.start) T (λ a l one. stands [] a (omega arith) before (rw at one)) (rw (at, over, none) at in_program)
        go (behind_bar next t et ek at over heads) =
            let l = forward false program next.start t et (λ q. let y : ◌≡◌ {A = ℕ} 23 20 = inv ek ∙ q in omega arith) in
            let f = heads.forward in
            let s = heads.means in
            goes_as (also_around n (λ hs s. inv s.size) t et ek heads) T (λ a p one. stands _ a (omega arith) (record { size = s.size; few = s.few; kept = s.kept; stands = codes_wider _ (omega arith) s.stands }) (rw at one)) (rw (at, over) at in_program)

    -- so there was room
    pub head_room : (k.over ≡ false) × (n < most_heads)
    head_room = go g.so_far
      where
        go : SoFar program output names₀ literals₀ k number names variables literals here n → (k.over ≡ false) × (n < most_heads)
        go (none_yet at over none before) = (inv over ∙ in_program.kept, let s = before.size in omega arith)
        go (behind_bar next t et ek at over heads) = (heads.kept, leb-false most_heads n (inv over ∙ in_program.kept))

    pub head_fits : (number * rule_rows + n) * literal_stride + literal_stride ≤ length literals
    head_fits = let room = head_room.1 in let l = g.literals_long in omega (arith, asked.long head_room.0)

    module _ (row : List ℕ) (er : row ≡ head_sort ∷ w.codes.predicate ∷ 0 ∷ w.codes.terms) (full : length row ≡ literal_stride) (literals' : List ℕ) (stored : literals' ≡ with_row literals ((number * rule_rows + n) * literal_stride) row) where
      one_more : Reads (HeadsStand program output names₀ literals₀ k.at.start number w.behind.start (n + 1) names' literals')
      one_more = with_head more
        where
          more : (hs : List (Atom (Term Value))) (a : Atom (Term Value)) → InOrder → Before hs → One a → HeadsStand program output names₀ literals₀ k.at.start number w.behind.start (n + 1) names' literals' (hs ▹ a)
          more hs a l before one =
              let size : length (hs ▹ a) ≡ n + 1 = length-append hs (a ∷ []) ∙ let s = before.size in omega arith in
              let room = head_room.1 in
              record {
                size = inv size;
                few = omega arith;
                kept = kept_then before.kept (kept_wider (row_kept (number * rule_rows) n row literals full head_fits literals' stored) (number * rule_rows * literal_stride) ((number * rule_rows + most_heads) * literal_stride) (omega arith) (omega arith));
                stands = record { grows = grows_then program output before.stands.grows _ one.grows l; coded = rw size (row_more (number * rule_rows) n row literals full head_fits literals' stored (pairwise_more _ (λ r b h. keeps_atom program output one.grows _ _ h) (rw (inv before.size) at before.stands.coded)) (coded_head _ w.codes a row er one.coded)) };
              }

      module _ (t : TokenRead) (et : t ≡ token_read false program w.behind.start) where
        -- no `|`: it is the last
        pub heads_end : (t.kind ≡ 23 → ⊥) → ReadsHeads program output names₀ literals₀ k number (Ok (record { token = t; count = n + 1; met = w.met })) names' variables' literals'
        heads_end nb = record { place = w.behind; reads = one_more; is_token = et; no_bar = nb }

        -- `|`: one more is wanted
        module _ (ek : t.kind ≡ 23) where
          abbrev next_head : Cursor
          next_head = onward k (past t.place) (leb most_heads (n + 1)) w.met

          pub heads_on : length variables' ≡ length variables₀ → (here' : Cursor) → here' ≡ next_head → (first' : TokenRead) → first' ≡ token_read false program here'.at.start → Going program output names₀ variables₀ literals₀ k number names' variables' literals' here' first' (n + 1)
          heads_on long here' eh first' ef =
              let l = forward false program w.behind.start t et (λ q. let y : ◌≡◌ {A = ℕ} 23 20 = inv ek ∙ q in omega arith) in
              let f = one_more.forward in
              let grows = one_more.means.stands.grows in
              rw eh
              (record {
                ready = record { ready = ready_on asked.ready.ready next_head refl (grows_then program output grows _ (grows_none program output names' 0 grows.in_order) (omega arith)) (omega arith) (past_here false program w.behind.start t et (λ q. refl)) (fits_met variables' w.met one_more.fits) long; in_program = asked.ready.in_program };
                is_token = rw eh at ef;
                names_long = grows.long;
                long = long;
                literals_long = (row_kept (number * rule_rows) n row literals full head_fits literals' stored).long ∙ g.literals_long;
                so_far = behind_bar w.behind t et ek refl refl one_more;
              })
