-- Laws of what a function of the reader promises, for every production.
use mathlib.Core.Path.{◌≡◌, ap, ◌∙◌}
use mathlib.Core.Bool.{Bool, false}
use Prim.Native.Nat.{ℕ, ◌≤◌}
use native.Mathlib.Omega.{arith}
use mathlib.Core.List.{List}
use Rattle.std.specs.Prelude.{Result, Ok, Err, IsErr, IsErrAnd}
use Rattle.std.proofs.lemmas.Result.{err_from_is_err_and}
use Rattle.texts.specs.declared.place.Place.{Place}
use Rattle.texts.specs.declared.refusal.Refused.{Refused}
use Rattle.meaning.specs.Rules.{Bytes}
use Rattle.grammar.specs.Variables.{met}
use Rattle.syntax.specs.Variables.{variables_of}
use Rattle.syntax.specs.Ahead.{from}
use Rattle.syntax.specs.Fills.{Production, Goes, Stops, Fills}

-- one thing of the grammar that is, perhaps behind something that has been read, another: g says what the other means
pub record Around {ground : Bool} (X Y : Production ground) (g : X.Meant → Y.Meant) (over over' : Bool) (text : Bytes) (at at' : ℕ) (v v' : List Place) : Type 0 where
  pub later : at' ≤ at
  pub kept : over ≡ false → over' ≡ false
  pub tree : X.Tree → Y.Tree
  pub place : Y.Context → X.Context
  pub before : (h : Y.Context) → from ground text (Y.before h) v' at' ≡ from ground text (X.before (place h)) v at
  pub behind : (h : Y.Context) (x : X.Tree) → X.behind (place h) x ≡ Y.behind h (tree x)
  pub spelling : (x : X.Tree) → met (variables_of text v') (Y.spelling (tree x)) ≡ met (variables_of text v) (X.spelling x)
  pub meant : (x : X.Tree) → Y.meant (variables_of text v') (tree x) ≡ g (X.meant (variables_of text v) x)

-- .. and that one a third
pub around_then : {ground : Bool} {X Y Z : Production ground} {g : X.Meant → Y.Meant} {h : Y.Meant → Z.Meant} {o o' o'' : Bool} {text : Bytes} {at at' at'' : ℕ} {v v' v'' : List Place} → Around X Y g o o' text at at' v v' → Around Y Z h o' o'' text at' at'' v' v'' → Around X Z (λ m. h (g m)) o o'' text at at'' v v''
around_then {h = h} w u =
    record {
      later = omega (arith, w.later, u.later);
      kept = λ k. u.kept (w.kept k);
      tree = λ x. u.tree (w.tree x);
      place = λ c. w.place (u.place c);
      before = λ c. u.before c ∙ w.before (u.place c);
      behind = λ c x. w.behind (u.place c) x ∙ u.behind c (w.tree x);
      spelling = λ x. u.spelling (w.tree x) ∙ w.spelling x;
      meant = λ x. u.meant (w.tree x) ∙ ap h (w.meant x);
    }

-- a refusal of the one, where the other may stand
pub stops_at : {ground : Bool} {X Y : Production ground} {text : Bytes} {at at' : ℕ} {v v' : List Place} {e : Refused} (place : Y.Context → X.Context) → ((h : Y.Context) → from ground text (Y.before h) v' at' ≡ from ground text (X.before (place h)) v at) → Stops X text at v e → Stops Y text at' v' e
stops_at place before s = record { refuses = s.refuses; answer = λ h. ap (λ y. y.answer) (before h) ∙ s.answer (place h) }

-- .. and either, tree by tree: what the other means need be no function of what the one means
module _ {ground : Bool} (X Y : Production ground) (over over' : Bool) (text : Bytes) (at at' : ℕ) (v v' : List Place) (later : at' ≤ at) (kept : over ≡ false → over' ≡ false) (tree : X.Tree → Y.Tree) (place : Y.Context → X.Context) (before : (h : Y.Context) → from ground text (Y.before h) v' at' ≡ from ground text (X.before (place h)) v at) (behind : (h : Y.Context) (x : X.Tree) → X.behind (place h) x ≡ Y.behind h (tree x)) (spelling : (x : X.Tree) → met (variables_of text v') (Y.spelling (tree x)) ≡ met (variables_of text v) (X.spelling x)) where
  pub goes_by : {next : Place} {n : List Place} {S : X.Meant → Type 0} (T : Y.Meant → Type 0) → ((x : X.Tree) → at ≤ next.start → S (X.meant (variables_of text v) x) → T (Y.meant (variables_of text v') (tree x))) → Goes X over text at v next n S → Goes Y over' text at' v' next n T
  goes_by {next} {n} T stands r =
      record {
        forward = omega (arith, later, r.forward);
        stands = r.stands;
        kept = kept r.kept;
        fits = r.fits;
        tree = tree r.tree;
        means = stands r.tree r.forward r.means;
        names = spelling r.tree ∙ r.names;
        ahead = λ h. before h ∙ r.ahead (place h) ∙ ap (λ y. from ground text y n next.start) (behind h r.tree);
      }

  pub fills_by : {A : Type 0} (r : Result A Refused) (next : A → Place) (n : A → List Place) (S : A → X.Meant → Type 0) (T : A → Y.Meant → Type 0) → ((a : A) (x : X.Tree) → at ≤ (next a).start → S a (X.meant (variables_of text v) x) → T a (Y.meant (variables_of text v') (tree x))) → Fills X over text at v r next n S → Fills Y over' text at' v' r next n T
  fills_by (Ok a) next n S T stands f = goes_by (T a) (stands a) f
  fills_by (Err e) next n S T stands f = stops_at place before f

-- a refusal says nothing of what is behind it
pub fills_stops : {ground : Bool} (X : Production ground) (over : Bool) (text : Bytes) (at : ℕ) (v : List Place) {A B : Type 0} (e : Refused) (next : A → Place) (n : A → List Place) (S : A → X.Meant → Type 0) (next' : B → Place) (n' : B → List Place) (T : B → X.Meant → Type 0) → Fills X over text at v (Err e) next n S → Fills X over text at v (Err e) next' n' T
fills_stops X over text at v e next n S next' n' T f = f

module _ {ground : Bool} {X Y : Production ground} {g : X.Meant → Y.Meant} {over over' : Bool} {text : Bytes} {at at' : ℕ} {v v' : List Place} (w : Around X Y g over over' text at at' v v') where
  pub stops_as : {e : Refused} → Stops X text at v e → Stops Y text at' v' e
  stops_as s = stops_at w.place w.before s

  pub goes_as : {next : Place} {n : List Place} {S : X.Meant → Type 0} (T : Y.Meant → Type 0) → ((m : X.Meant) → at ≤ next.start → S m → T (g m)) → Goes X over text at v next n S → Goes Y over' text at' v' next n T
  goes_as T stands = goes_by X Y over over' text at at' v v' w.later w.kept w.tree w.place w.before w.behind w.spelling T (λ x b s. rw (w.meant x) (stands _ b s))

  pub fills_as : {A : Type 0} (r : Result A Refused) (next : A → Place) (n : A → List Place) (S : A → X.Meant → Type 0) (T : A → Y.Meant → Type 0) → ((a : A) (m : X.Meant) → at ≤ (next a).start → S a m → T a (g m)) → Fills X over text at v r next n S → Fills Y over' text at' v' r next n T
  fills_as (Ok a) next n S T stands f = goes_as (T a) (stands a) f
  fills_as (Err e) next n S T stands f = stops_as f

-- a refusal that `?` hands on stays as it is
pub passed_up : {A : Type 0} {r : Result A Refused} {e : Refused} → IsErr r × IsErrAnd r (λ x. x ≡ e) → r ≡ Err e
passed_up {r = r} h = let p = err_from_is_err_and r h.1 in p.1 ∙ ap Err p.2
