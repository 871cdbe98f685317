-- The plain form of a tree, as a tree: `p` for `p()`, `0` for `-0`, `!=` for `<>`.
use Rattle.std.specs.Prelude.{Bool, zero, suc}
use Rattle.std.proofs.Math.Option.{Option, none, some}
use Rattle.meaning.specs.Domain.{unequal}
use Rattle.grammar.specs.Tokens.{Sign, sign, <>}
use Rattle.grammar.specs.Trees.{Sequence, empty, ◌then◌, Term, name, variable, string, number, negative, anonymous, Arguments, bare, parentheses, arguments, Atom, atom, Literal, positive, negated, compared, computed, Heads, head, also, Rule, fact, clause, Program}

unfoldable pub each : {A : Type 0} → (A → A) → Sequence A → Sequence A
each f empty = empty
each f (xs then x) = each f xs then f x

unfoldable pub plain_term : {ground : Bool} → Term ground → Term ground
plain_term (name b) = name b
plain_term (variable u b) = variable u b
plain_term (string b) = string b
plain_term (number n) = number n
plain_term (negative zero) = number 0
plain_term (negative (suc n)) = negative (suc n)
plain_term (anonymous u) = anonymous u

unfoldable pub plain_arguments : {ground : Bool} → Arguments ground → Arguments ground
plain_arguments bare = bare
plain_arguments parentheses = bare
plain_arguments (arguments ts t) = arguments (each plain_term ts) (plain_term t)

unfoldable pub plain_atom : {ground : Bool} → Atom ground → Atom ground
plain_atom (atom s b xs) = atom s b (plain_arguments xs)

unfoldable pub plain_sign : Sign → Sign
plain_sign (sign c) = sign c
plain_sign <> = sign unequal

unfoldable pub plain_literal : {ground : Bool} → Literal ground → Literal ground
plain_literal (positive x) = positive (plain_atom x)
plain_literal (negated x) = negated (plain_atom x)
plain_literal (compared t r u) = compared (plain_term t) (plain_sign r) (plain_term u)
plain_literal (computed t r u o v) = computed (plain_term t) (plain_sign r) (plain_term u) o (plain_term v)

unfoldable pub plain_heads : {ground : Bool} → Heads ground → Heads ground
plain_heads (head x) = head (plain_atom x)
plain_heads (also u hs x) = also u (plain_heads hs) (plain_atom x)

unfoldable pub plain_head : {ground : Bool} → Option (Heads ground) → Option (Heads ground)
plain_head none = none
plain_head (some hs) = some (plain_heads hs)

unfoldable pub plain_rule : {ground : Bool} → Rule ground → Rule ground
plain_rule (fact hs) = fact (plain_heads hs)
plain_rule (clause u h ls l) = clause u (plain_head h) (each plain_literal ls) (plain_literal l)

unfoldable pub plain_form : {ground : Bool} → Program ground → Program ground
plain_form p = each plain_rule p
