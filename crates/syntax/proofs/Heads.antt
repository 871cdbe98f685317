-- Heads, and what stands behind them, by the tests that lead to what is read.
use mathlib.Core.Path.{◌≡◌, refl, sym as inv, ap, ◌∙◌}
use mathlib.Core.Bool.{Bool, true, false}
use mathlib.Core.Option.{some}
use mathlib.Core.List.{List, [], ◌∷◌}
use Prim.Native.Nat.{ℕ, suc}
use native.Mathlib.Omega.{arith}
use lib.Dec.{leb}
use lib.ListN.{length, length-append}
use borrow.Author.Tests.{ne_eqb}
use Rattle.texts.specs.declared.place.Place.{Place}
use Rattle.texts.specs.Parts.{part}
use Rattle.reading.specs.Reading.{◌▹◌, refused}
use Rattle.meaning.specs.Rules.{Bytes, Term, Atom}
use Rattle.meaning.specs.Values.{Value}
use Rattle.grammar.specs.Trees.{Free, ◌then◌, Atom as AtomTree, Heads, head_count, fact, Program}
use Rattle.grammar.specs.Spelling.{Mark, inside, spell_atom, spell_heads}
use Rattle.grammar.specs.Variables.{Variables as Names, meet_symbol, meet, met}
use Rattle.grammar.specs.Abstraction.{heads_for}
use Rattle.grammar.specs.Sizes.{most_heads, too_big, too_long, too_many, is_underscore, too_many_variables}
use Rattle.grammar.specs.States.{head_behind, head_after, literal_in, atom_wanted, closed}
use Rattle.grammar.specs.Moves.{free_moves, symbol_number, token_number, when, fire, either, try}
use Rattle.grammar.specs.Machine.{new_body, after_heads, after_atom, moves, finished}
use Rattle.grammar.proofs.Numbers.{fire_number, try_number}
use Rattle.grammar.proofs.Variables.{met_append, met_atom}
use Rattle.syntax.specs.declared.token.TokenRead.{TokenRead}
use Rattle.syntax.specs.Text.{token_of, placed_from, token_read, next_of}
use Rattle.syntax.specs.Variables.{variables_of}
use Rattle.syntax.specs.Ahead.{wants, from}
use Rattle.syntax.specs.Fills.{Goes}
use Rattle.syntax.specs.Atoms.{AtomPlace, atom_context, atom_in}
use Rattle.syntax.specs.Rules.{behind_rules}
use Rattle.syntax.specs.Heads.{behind_heads, heads_in}
use Rattle.syntax.proofs.Tokens.{token_by, forward}
use Rattle.syntax.proofs.Steps.{same_walk, meets_none, on_kind, wrong_token, dot_token}
use Rattle.syntax.proofs.Sizes.{fault_none}
use Rattle.syntax.proofs.Lists.{too_many_next}
use Rattle.syntax.proofs.Readings.{Around}

module _ {ground : Bool} where
  -- as many atoms as heads
  pub heads_many : (hs : Heads ground) → length (heads_for hs) ≡ head_count hs
  unfolding heads_for head_count
  heads_many (Heads.head x) = refl
  heads_many (Heads.also u hs x) = length-append (heads_for hs) _ ∙ let e = heads_many hs in omega arith

  -- the next head is one too many where there are as many as there may be
  pub next_head : (hs : Heads ground) (n : ℕ) → length (heads_for hs) ≡ n → too_many ground (Mark.head (suc (head_count hs))) ≡ leb most_heads n
  unfolding too_many
  next_head hs n e = too_many_next most_heads (head_count hs) ∙ ap (leb most_heads) (inv (heads_many hs) ∙ e)

  -- what is wanted behind an atom that is a head
  pub behind_first : (p : Program ground) (x : AtomTree ground) → wants (closed (head_behind p) x) ≡ behind_heads p (Heads.head x)
  unfolding moves after_atom finished
  behind_first p x = refl

  pub behind_also : (u : Free ground) (p : Program ground) (hs : Heads ground) (x : AtomTree ground) → wants (closed (head_after u p hs) x) ≡ behind_heads p (Heads.also u hs x)
  unfolding moves after_atom finished
  behind_also u p hs x = refl

-- ---- behind heads

-- a dot: the rule has no body
pub heads_dot : (ground : Bool) (text : Bytes) (at : ℕ) (t : TokenRead) → t ≡ token_read ground text at → (v : List Place) → t.kind ≡ 8 → (p : Program ground) (hs : Heads ground) → ((from ground text (behind_heads p hs) v at).answer ≡ behind_rules ground text (p then fact hs) (next_of t)) × ((from ground text (behind_heads p hs) v at).firsts ≡ v) × ((from ground text (behind_heads p hs) v at).rest ≡ some (placed_from ground text (next_of t)))
unfolding after_heads try fire either when symbol_number too_big too_long too_many too_many_variables is_underscore
heads_dot ground text at t et v ek p hs =
    let y = dot_token ground text at t et ek (behind_heads p hs) v (record { mark = inside; state = atom_wanted (head_behind (p then fact hs)) }) refl (fault_none _ _ _ _ refl refl refl refl) in
    (y.0 ∙ inv (same_walk ground _ _ [] _), y.1, y.2)

-- on a facts line nothing else may stand there
pub line_wrong : (text : Bytes) (at : ℕ) (t : TokenRead) → t ≡ token_read true text at → (v : List Place) → (t.kind ≡ 8 → ⊥) → (p : Program true) (hs : Heads true) → (from true text (behind_heads p hs) v at).answer ≡ refused 2 t.place
unfolding after_heads free_moves try_number fire_number either when symbol_number
line_wrong text at t et v n p hs = wrong_token true text at t et (behind_heads p hs) v (rw (ne_eqb t.kind 8 n)) (λ z. refl)

module _ (text : Bytes) (at : ℕ) (t : TokenRead) (et : t ≡ token_read false text at) (v : List Place) where
  -- `:-`: a body
  pub heads_if : t.kind ≡ 9 → (p : Program false) (hs : Heads false) → from false text (behind_heads p hs) v at ≡ from false text (wants (atom_wanted (literal_in (new_body tt p (some hs))))) v (next_of t)
  unfolding after_heads free_moves try fire either when token_of symbol_number token_number too_big too_long too_many too_many_variables is_underscore meet meet_symbol
  heads_if ek p hs = on_kind false text at t et 9 ek (λ z. omega arith) (behind_heads p hs) v v (record { mark = inside; state = atom_wanted (literal_in (new_body tt p (some hs))) }) refl (fault_none _ _ _ _ refl refl refl refl) (meets_none text (token_by 9 (part text t.place)) t.place v refl refl)

  -- `|`: one more head
  pub heads_bar : t.kind ≡ 23 → (p : Program false) (hs : Heads false) → from false text (behind_heads p hs) v at ≡ from false text (wants (atom_wanted (head_after tt p hs))) v (next_of t)
  unfolding after_heads free_moves try fire either when token_of symbol_number token_number too_big too_long too_many too_many_variables is_underscore meet meet_symbol
  heads_bar ek p hs = on_kind false text at t et 23 ek (λ z. omega arith) (behind_heads p hs) v v (record { mark = inside; state = atom_wanted (head_after tt p hs) }) refl (fault_none _ _ _ _ refl refl refl refl) (meets_none text (token_by 23 (part text t.place)) t.place v refl refl)

  -- none of the three
  pub heads_wrong : (t.kind ≡ 8 → ⊥) → (t.kind ≡ 9 → ⊥) → (t.kind ≡ 23 → ⊥) → (p : Program false) (hs : Heads false) → (from false text (behind_heads p hs) v at).answer ≡ refused 2 t.place
  unfolding after_heads free_moves try_number fire_number either when symbol_number
  heads_wrong a b c p hs = wrong_token false text at t et (behind_heads p hs) v (rw (ne_eqb t.kind 8 a, ne_eqb t.kind 9 b, ne_eqb t.kind 23 c)) (λ z. refl)

-- ---- the heads of a rule

-- where an atom is read as the first
pub first_around : (ground over : Bool) (text : Bytes) (at : ℕ) → Around (atom_in ground over text at) (heads_in ground over text at) (λ a. a ∷ []) over over text at at [] []
unfolding atom_context variables_of heads_for spell_heads
first_around ground over text at = record { later = omega arith; kept = λ o. o; tree = Heads.head; place = λ h. AtomPlace.head h.rules h.size h.no_if h.no_end; before = λ h. refl; behind = λ h x. behind_first h.rules x; spelling = λ x. refl; meant = λ x. refl }

-- the variables met in one head more
met_also : (vs : Names) (u : Unit {0}) (hs : Heads false) (x : AtomTree false) → met vs (spell_heads inside (Heads.also u hs x)) ≡ met (met vs (spell_heads inside hs)) (spell_atom inside x)
unfolding spell_heads met meet meet_symbol
met_also vs u hs x = met_append vs (spell_heads inside hs) _ ∙ met_atom _ inside (met vs (spell_heads inside hs)) x

-- where n are read, and behind them and `|` an atom: one more, or a refusal. The next is one too many where n are as many as there may be
pub also_around : {over : Bool} {text : Bytes} {at : ℕ} {next : Place} {v : List Place} {S : List (Atom (Term Value)) → Type 0} (n : ℕ) → ((ms : List (Atom (Term Value))) → S ms → length ms ≡ n) → (t : TokenRead) → t ≡ token_read false text next.start → t.kind ≡ 23 → (g : Goes (heads_in false over text at) over text at [] next v S) → Around (atom_in false (leb most_heads n) text (next_of t)) (heads_in false over text at) (λ a. heads_for g.tree ▹ a) (leb most_heads n) over text (next_of t) at v []
unfolding atom_context variables_of heads_for
also_around {text = text} {next = next} {v = v} n many t et ek g =
    record {
      later = let l = forward false text next.start t et (λ q. let y : ◌≡◌ {A = ℕ} 23 20 = inv ek ∙ q in omega arith) in let f = g.forward in omega arith;
      kept = λ o. g.kept;
      tree = Heads.also tt g.tree;
      place = λ h. AtomPlace.also tt h.rules g.tree (next_head g.tree n (many _ g.means));
      before = λ h. g.ahead h ∙ heads_bar text next.start t et v ek h.rules g.tree;
      behind = λ h x. behind_also tt h.rules g.tree x;
      spelling = λ x. met_also (variables_of text []) tt g.tree x ∙ rw g.names;
      meant = λ x. rw g.names;
    }
