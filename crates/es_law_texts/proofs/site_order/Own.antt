-- The sites of the nodes of a plain tree stand on tokens, in order, form by form.
use Rattle.std.specs.Prelude.{ℕ, suc, Bool, false, List, [], ◌++◌, Option, Some, None, option_map, slice_get}
use Rattle.std.proofs.Common.{◌≡◌, ◌+◌, ◌≤◌, ◌<◌, refl, sym, subst, arith}
use Rattle.es_token.specs.declared.token.Token.{Token}
use Rattle.es_ast.specs.declared.ts.leaf.Str.{Str}
use Rattle.es_grammar.specs.declared.rows.NodeKind.{NodeKind}
use Rattle.es_grammar.specs.declared.rows.NodeKind.TheVariants as l
use Rattle.es_site.specs.declared.site.Attribute.{Attribute}
use Rattle.es_site.specs.declared.site.Attribute.TheVariants.{Unknown}
use Rattle.es_site.specs.declared.site.DependencyKind.{DependencyKind}
use Rattle.es_site.specs.declared.site.DependencyKind.TheVariants as kind
use Rattle.es_site.specs.Sites.{Found}
use Rattle.es_lowering.specs.Texts.{str_of}
use Rattle.es_law_sites.specs.plain.Part.{Part, part, group, is_there, found, at, inside, may, turns}
use Rattle.es_law_sites.specs.plain.Own.{str_in, src_by, src_in, options_in, naming, declared, first_of, returned, handled, optional_inner, typed_args, typed_inner, operand, own}
use Rattle.es_law_texts.proofs.site_order.Sites.{StrOn, widen, str_widen}
use Rattle.es_law_texts.proofs.site_order.Parts.{On, Linked, Stands, gone, end, pair, leaf, made, nothing, on_wider, both_on, ahead, place, up, last, part_stands, group_stands, Run, all, two, found_on, at_run, inside_run, each_run, may_run, turns_run, at_in, turns_in, two_in}

-- a string literal on one of these tokens, or none
abbrev pub MayOn : List Token → ℕ → ℕ → Option Str → Type 0
MayOn ts a b (Some s) = StrOn ts a b s
MayOn ts a b None = Unit {0}

module _ (x : List ℕ) (ts : List Token) where
  -- ---- literals
  token_str : (a b n : ℕ) (t : Option Token) → slice_get ts n ≡ t → a ≤ n → n < b
      → MayOn ts a b (option_map (str_of x) t)
  unfolding str_of
  token_str a b n (Some t) there low high = (n, t, low, high, there, refl)
  token_str a b n None there low high = tt

  str_on : (a b : ℕ) (p : Part) → Stands x ts a b p → MayOn ts a b (str_in x ts p)
  str_on a b p (gone le) = tt
  str_on a b p (end le) = tt
  str_on a b p (pair h i) = tt
  str_on a b p (leaf n low high) = token_str a b n (slice_get ts n) refl low high
  str_on a b p (made label low high mid link h m) = tt

  may_wider : (a b c d : ℕ) (o : Option Str) → a ≤ b → c ≤ d → MayOn ts b c o → MayOn ts a d o
  may_wider a b c d (Some s) low high on = str_widen ts a b c d s low high on
  may_wider a b c d None low high on = tt

  -- the literal, and sites behind it
  naming_on : (kind : DependencyKind) (a m b : ℕ) (u : Found) (k : Bool) (attribute : Attribute) (o : Option Str)
      → a ≤ m → m ≤ b → MayOn ts a m o → On ts m b u → On ts a b (naming x ts kind k attribute o ++ u)
  naming_on kind a m b u k attribute None low high on rest = on_wider low (omega arith) rest
  naming_on kind a m b u k attribute (Some s) low high on rest =
      let inside : on.0 < m = on.3 in
      let behind : on.0 + 1 ≤ m = omega (arith, inside) in
      record { stand = (on.0, on.1, on.2, on.4, on.5, widen ts (on.0 + 1) m b b u behind (omega arith) rest.stand) }

  naming_alone : (kind : DependencyKind) (a b : ℕ) (k : Bool) (attribute : Attribute) (o : Option Str) → a ≤ b
      → MayOn ts a b o → On ts a b (naming x ts kind k attribute o)
  naming_alone kind a b k attribute None le on = nothing le
  naming_alone kind a b k attribute (Some s) le on =
      let inside : on.0 < b = on.3 in
      let behind : on.0 + 1 ≤ b = omega (arith, inside) in
      record { stand = (on.0, on.1, on.2, on.4, on.5, behind) }

  declared_run : (kind : DependencyKind) (k : Bool) {a b : ℕ} {p : Part} (h : Stands x ts a b p) (i : ℕ)
      → Run h i (suc i) (declared x ts kind k p i)
  declared_run kind k {p = p} h i =
      record {
        on = naming_alone kind (place i h) (place (suc i) h) k _ _ (up i (suc i) h (omega arith))
            (str_on _ _ (part p i) (part_stands i h));
      }

  required_run : {a b : ℕ} {p : Part} (h : Stands x ts a b p)
      → Run h 2 3 (naming x ts kind.ImportEquals (is_there (group p 0)) Unknown (str_in x ts (part p 2)))
  required_run {p = p} h =
      record {
        on = naming_alone kind.ImportEquals (place 2 h) (place 3 h) _ _ _ (up 2 3 h (omega arith))
            (str_on _ _ (part p 2) (part_stands 2 h));
      }

  -- no sites of its own stand in a literal
  behind_none : (m b : ℕ) (s u : Found) → s ≡ [] → On ts m b u → On ts m b (s ++ u)
  behind_none m b s u e rest = let P : Found → Type 0 = λ r. On ts m b (r ++ u) in subst P (sym e) rest

  -- a call whose first argument is a literal, or isn't
  called_by : (kind : DependencyKind) (label : NodeKind) (a b m from to : ℕ) (p : Part) (s u : Found)
      (attribute : Attribute) → a ≤ from → to ≤ m → m ≤ b → from ≤ to → Linked x ts label p s → Stands x ts from to p → On ts from to s → On ts m b u
      → On ts a b (naming x ts kind false attribute (src_by x ts label p) ++ (s ++ u))
  called_by kind l.Str a b m from to p s u attribute low high le mid link h it rest =
      let within : place 1 h ≤ to = last 1 h in
      naming_on kind a m b (s ++ u) false attribute _ (omega (arith, low, mid, high)) le
      (may_wider a (place 0 h) (place 1 h) m _ low (omega (arith, within, high))
      (str_on _ _ (part p 0) (part_stands 0 h)))
      (behind_none m b s u (link (λ e. cc)) rest)
  called_by kind _ a b m from to p s u attribute low high le mid link h it rest =
      on_wider low (omega arith) (both_on high it rest)

  call_on : (kind : DependencyKind) (a m b : ℕ) (p : Part) (u : Found) (attribute : Attribute)
      → Stands x ts a m p → m ≤ b → On ts m b u
      → On ts a b (naming x ts kind false attribute (src_in x ts p) ++ (found p ++ u))
  call_on kind a m b p u attribute (gone first) le rest = on_wider first (omega arith) rest
  call_on kind a m b p u attribute (end first) le rest = on_wider first (omega arith) rest
  call_on kind a m b p u attribute (pair h i) le rest = on_wider (ahead (pair h i)) (omega arith) rest
  call_on kind a m b p u attribute (leaf n low high) le rest = on_wider (omega (arith, low, high)) (omega arith) rest
  call_on kind a m b p u attribute (made {from = from} {to = to} label low high mid link h it) le rest =
      called_by kind label a b m from to _ _ u attribute low high le mid link h it rest

  call_run : (kind : DependencyKind) {a b : ℕ} {p : Part} (h : Stands x ts a b p)
      → Run h 0 2 (naming x ts kind false (options_in x ts (group p 1)) (src_in x ts (part p 0))
      ++ (at p 0 ++ may p 1))
  call_run kind {p = p} h =
      record {
        on = call_on kind (place 0 h) (place 1 h) (place 2 h) (part p 0) (may p 1) _ (part_stands 0 h)
            (up 1 2 h (omega arith)) (may_run h 1).on;
      }

  -- ---- forms of their own
  first_on : (a b c d : ℕ) (p : Part) (s : Found) → Stands x ts a b p → b ≤ c → c ≤ d → On ts c d s
      → On ts a d (first_of x ts p s)
  first_on a b c d p s (gone first) low high rest = on_wider (omega (arith, first, low)) (omega arith) rest
  first_on a b c d p s (end first) low high rest = on_wider (omega (arith, first, low)) (omega arith) rest
  first_on a b c d p s (pair {m = m} h i) low high rest =
      let behind : m ≤ b = ahead i in on_wider (omega arith) (omega (arith, behind, low, high)) (found_on h)
  first_on a b c d p s (leaf n from to) low high rest = on_wider (omega (arith, from, to, low)) (omega arith) rest
  first_on a b c d p s (made label from to mid link h m) low high rest =
      on_wider (omega (arith, from, mid, to, low)) (omega arith) rest

  first_run : {a b : ℕ} {p : Part} (h : Stands x ts a b p)
      → Run h 0 3 (first_of x ts (group p 0) (first_of x ts (group p 1) (may p 2)))
  first_run {p = p} h =
      record {
        on = first_on (place 0 h) (place 1 h) (place 1 h) (place 3 h) (group p 0) _ (group_stands 0 h) (omega arith)
            (up 1 3 h (omega arith))
            (first_on (place 1 h) (place 2 h) (place 2 h) (place 3 h) (group p 1) _ (group_stands 1 h) (omega arith)
            (up 2 3 h (omega arith)) (may_run h 2).on);
      }

  returned_on : (a b : ℕ) (p : Part) → Stands x ts a b p → On ts a b (returned x ts p)
  returned_on a b p (gone le) = nothing le
  returned_on a b p (end le) = nothing le
  returned_on a b p (pair h (end le)) = nothing (ahead (pair h (end le)))
  returned_on a b p (pair h (gone le)) = on_wider (omega arith) le (found_on h)
  returned_on a b p (pair h (pair i k)) = on_wider (omega arith) (ahead (pair i k)) (found_on h)
  returned_on a b p (pair h (leaf n low high)) = on_wider (omega arith) (omega (arith, low, high)) (found_on h)
  returned_on a b p (pair h (made label low high mid link i m)) =
      on_wider (omega arith) (omega (arith, low, mid, high)) (found_on h)
  returned_on a b p (leaf n low high) = nothing (omega (arith, low, high))
  returned_on a b p (made label low high mid link h m) = nothing (omega (arith, low, mid, high))

  returned_run : {a b : ℕ} {p : Part} (h : Stands x ts a b p) → Run h 0 1 (returned x ts (group p 0))
  returned_run {p = p} h = record { on = returned_on (place 0 h) (place 1 h) (group p 0) (group_stands 0 h) }

  caught_on : {a b : ℕ} {p : Part} → Stands x ts a b p
      → On ts a b (inside (λ g. at g 0) (group p 0) ++ at p 1 ++ may p 2)
  caught_on h = all (two (two (may_run h 0) (at_run h 1) refl) (may_run h 2) refl)

  handled_on : (a b : ℕ) (p : Part) → Stands x ts a b p → On ts a b (handled x ts (inside (λ g. at g 0)) p)
  handled_on a b p (gone le) = caught_on (gone le)
  handled_on a b p (end le) = caught_on (end le)
  handled_on a b p (pair h (end le)) = on_wider (omega arith) le (found_on h)
  handled_on a b p (pair h (gone le)) = caught_on (pair h (gone le))
  handled_on a b p (pair h (pair i k)) = caught_on (pair h (pair i k))
  handled_on a b p (pair h (leaf n low high)) = caught_on (pair h (leaf n low high))
  handled_on a b p (pair h (made label low high mid link i m)) =
      caught_on (pair h (made label low high mid link i m))
  handled_on a b p (leaf n low high) = caught_on (leaf n low high)
  handled_on a b p (made label low high mid link h m) = caught_on (made label low high mid link h m)

  handled_run : {a b : ℕ} {p : Part} (h : Stands x ts a b p) (n : ℕ)
      → Run h n (suc n) (handled x ts (inside (λ g. at g 0)) (group p n))
  handled_run {p = p} h n = record { on = handled_on _ _ (group p n) (group_stands n h) }

  optional_on : (a b : ℕ) (p : Part) → Stands x ts a b p → On ts a b (optional_inner x ts p)
  optional_on a b p (gone le) = nothing le
  optional_on a b p (end le) = nothing le
  optional_on a b p (pair h i) = on_wider (omega arith) (ahead i) (found_on h)
  optional_on a b p (leaf n low high) = nothing (omega (arith, low, high))
  optional_on a b p (made label low high mid link h m) = on_wider low high m

  optional_run : {a b : ℕ} {p : Part} (h : Stands x ts a b p)
      → Run h 0 1 (optional_inner x ts (part (group p 0) 0))
  optional_run h =
      let g = group_stands 0 h in
      record { on = on_wider (up 0 0 g (omega arith)) (last 1 g) (optional_on _ _ _ (part_stands 0 g)) }

  typed_args_on : (a b : ℕ) (p : Part) → Stands x ts a b p → On ts a b (typed_args x ts p)
  typed_args_on a b p (gone le) = nothing le
  typed_args_on a b p (end le) = nothing le
  typed_args_on a b p (pair (leaf n low high) i) = nothing (ahead (pair (leaf n low high) i))
  typed_args_on a b p (pair (gone le) i) = all (at_run (pair (gone le) i) 1)
  typed_args_on a b p (pair (end le) i) = all (at_run (pair (end le) i) 1)
  typed_args_on a b p (pair (pair h k) i) = all (at_run (pair (pair h k) i) 1)
  typed_args_on a b p (pair (made label low high mid link h m) i) =
      all (at_run (pair (made label low high mid link h m) i) 1)
  typed_args_on a b p (leaf n low high) = nothing (omega (arith, low, high))
  typed_args_on a b p (made label low high mid link h m) = nothing (omega (arith, low, mid, high))

  typed_inner_on : (a b : ℕ) (p : Part) → Stands x ts a b p → On ts a b (typed_inner x ts p)
  typed_inner_on a b p (gone le) = nothing le
  typed_inner_on a b p (end le) = nothing le
  typed_inner_on a b p (pair h i) = typed_args_on a b _ (pair h i)
  typed_inner_on a b p (leaf n low high) = nothing (omega (arith, low, high))
  typed_inner_on a b p (made label low high mid link h m) = on_wider low high m

  typed_optional_run : {a b : ℕ} {p : Part} (h : Stands x ts a b p)
      → Run h 0 1 (typed_inner x ts (part (group p 0) 0))
  typed_optional_run h =
      let g = group_stands 0 h in
      record { on = on_wider (up 0 0 g (omega arith)) (last 1 g) (typed_inner_on _ _ _ (part_stands 0 g)) }

  operand_on : (a b c d : ℕ) (g p : Part) → Stands x ts a b g → Stands x ts c d p → On ts a b (operand x ts g p)
  operand_on a b c d g p h (gone le) = all (at_run h 1)
  operand_on a b c d g p h (end le) = all (at_run h 1)
  operand_on a b c d g p h (pair i j) = nothing (ahead h)
  operand_on a b c d g p h (leaf n low high) = all (at_run h 1)
  operand_on a b c d g p h (made label low high mid link i m) = all (at_run h 1)

  operand_run : {a b : ℕ} {p : Part} (h : Stands x ts a b p) (n : ℕ)
      → Run h n (suc n) (operand x ts (group p n) (part (group p n) 1))
  operand_run {p = p} h n =
      let g = group_stands n h in
      record { on = operand_on _ _ _ _ (group p n) (part (group p n) 1) g (part_stands 1 g) }

  -- ---- by the alternative, a line for each that has sites
  pub own_on : (label : NodeKind) (a b : ℕ) (p : Part) → Stands x ts a b p → On ts a b (own x ts label p)
  -- modules
  own_on l.BareImport a b p h = all (declared_run kind.Import false h 0)
  own_on l.FromImport a b p h = all (declared_run kind.Import _ h 2)
  own_on l.SourceImport a b p h = all (declared_run kind.ImportSource false h 1)
  own_on l.DeferImport a b p h = all (declared_run kind.ImportDefer false h 1)
  own_on l.RequireImport a b p h = all (required_run h)
  own_on l.ExportedRequireImport a b p h = all (required_run h)
  own_on l.ExportAll a b p h = all (declared_run kind.Export _ h 2)
  own_on l.ExportNames a b p h = all (inside_run h 2 (λ g. declared x ts kind.Export (is_there (group p 0)) g 0)
      (λ c d v i. all (declared_run kind.Export _ i 0)))
  own_on l.ExportDefaultFunction a b p h = all (at_run h 0)
  own_on l.ExportDefaultClass a b p h = all (at_run h 0)
  own_on l.ExportDefaultExpression a b p h = all (at_run h 0)
  own_on l.ExportDeclaration a b p h = all (at_run h 0)
  own_on l.ExportDefaultInterface a b p h = all (at_run h 0)
  own_on l.ExportAssignment a b p h = all (at_run h 0)
  own_on l.Module a b p h = all (turns_run h 1 0)
  own_on l.Script a b p h = all (turns_run h 1 0)
  -- expressions
  own_on l.ImportCall a b p h = all (call_run kind.Dynamic h)
  own_on l.SourceCall a b p h = all (call_run kind.DynamicSource h)
  own_on l.DeferCall a b p h = all (call_run kind.DynamicDefer h)
  own_on l.TemplateParts a b p h = all (two (at_run h 1) (turns_run h 2 1) refl)
  own_on l.Parenthesized a b p h = all (at_run h 0)
  own_on l.ArrayLiteral a b p h =
      all (each_run h 0 (λ turn. may turn 0) (λ c d v i. all (may_run i 0)))
  own_on l.ObjectLiteral a b p h = all (turns_run h 0 0)
  own_on l.Spread a b p h = all (at_run h 0)
  own_on l.Function a b p h = all (two (at_run h 2) (at_run h 3) refl)
  own_on l.AsyncFunction a b p h = all (two (at_run h 2) (at_run h 3) refl)
  own_on l.Class a b p h = all (two (may_run h 1) (turns_run h 2 0) refl)
  own_on l.New a b p h = all (two (at_run h 0) (may_run h 1) refl)
  own_on l.Chain a b p h = all (two (at_run h 0) (two (at_run h 1) (turns_run h 2 0) refl) refl)
  own_on l.UpdatePrefix a b p h = all (at_run h 1)
  own_on l.UpdatePostfix a b p h = all (at_run h 0)
  own_on l.UnaryExpression a b p h = all (at_run h 1)
  own_on l.AwaitExpression a b p h = all (at_run h 0)
  own_on l.Binary a b p h = all (two (at_run h 0) (at_run h 2) refl)
  own_on l.PrivateIn a b p h = all (at_run h 1)
  own_on l.Conditional a b p h = all (two (two (at_run h 0) (at_run h 1) refl) (at_run h 2) refl)
  own_on l.Assignment a b p h = all (two (at_run h 0) (at_run h 2) refl)
  own_on l.PatternAssignment a b p h = all (two (at_run h 0) (at_run h 1) refl)
  own_on l.Yield a b p h = all (inside_run h 0 (λ g. at g 1) (λ c d v i. all (at_run i 1)))
  own_on l.NameArrow a b p h = all (at_in h 1 0)
  own_on l.AsyncNameArrow a b p h = all (at_in h 1 0)
  own_on l.ParenthesizedArrow a b p h = all (two (at_run h 0) (at_in h 1 0) refl)
  own_on l.AsyncParenthesizedArrow a b p h = all (two (at_run h 0) (at_in h 1 0) refl)
  own_on l.Sequence a b p h = all (two (at_run h 0) (two (at_run h 1) (turns_run h 2 0) refl) refl)
  own_on l.Arguments a b p h = all (turns_run h 0 1)
  own_on l.IndexPost a b p h = all (at_run h 0)
  own_on l.CallPost a b p h = all (at_run h 0)
  own_on l.TemplatePost a b p h = all (at_run h 0)
  own_on l.OptionalPost a b p h = all (optional_run h)
  own_on l.TypedFunction a b p h = all (two (at_run h 2) (at_in h 3 0) refl)
  own_on l.TypedAsyncFunction a b p h = all (two (at_run h 2) (at_in h 3 0) refl)
  own_on l.TypedClass a b p h = all (two (may_run h 2) (turns_run h 4 0) refl)
  own_on l.AbstractClass a b p h = all (two (may_run h 2) (turns_run h 4 0) refl)
  own_on l.TypedNew a b p h = all (two (at_run h 0) (may_run h 2) refl)
  own_on l.TypeAssertion a b p h = all (at_run h 1)
  own_on l.TypedBinary a b p h = all (two (at_run h 0) (operand_run h 1) refl)
  own_on l.TypedParenthesizedArrow a b p h = all (two (at_run h 1) (at_in h 3 0) refl)
  own_on l.TypedAsyncParenthesizedArrow a b p h = all (two (at_run h 1) (at_in h 3 0) refl)
  own_on l.TypedCallPost a b p h = all (at_run h 1)
  own_on l.TypedTemplatePost a b p h = all (at_run h 1)
  own_on l.TypedOptionalPost a b p h = all (typed_optional_run h)
  -- properties, keys and members
  own_on l.ComputedKey a b p h = all (at_run h 0)
  own_on l.SpreadProperty a b p h = all (at_run h 0)
  own_on l.KeyValue a b p h = all (two (at_run h 0) (at_run h 1) refl)
  own_on l.MethodProperty a b p h = all (two (at_run h 0) (two (at_run h 1) (at_run h 2) refl) refl)
  own_on l.GeneratorProperty a b p h = all (two (at_run h 0) (two (at_run h 1) (at_run h 2) refl) refl)
  own_on l.AsyncProperty a b p h = all (two (at_run h 1) (two (at_run h 2) (at_run h 3) refl) refl)
  own_on l.AccessorProperty a b p h = all (two (at_run h 1) (two (at_run h 2) (at_run h 3) refl) refl)
  own_on l.TypedMethodProperty a b p h = all (two_in 0 0 1 refl (at_run h 1) refl)
  own_on l.TypedGeneratorProperty a b p h = all (two_in 0 0 1 refl (at_run h 1) refl)
  own_on l.TypedAsyncProperty a b p h = all (two_in 1 0 1 refl (at_run h 2) refl)
  own_on l.TypedAccessorProperty a b p h = all (two_in 1 0 1 refl (at_run h 2) refl)
  own_on l.StaticBlock a b p h = all (at_run h 0)
  own_on l.MethodMember a b p h = all (two (at_run h 1) (two (at_run h 2) (at_run h 3) refl) refl)
  own_on l.GeneratorMember a b p h = all (two (at_run h 1) (two (at_run h 2) (at_run h 3) refl) refl)
  own_on l.AsyncMember a b p h = all (two (at_run h 2) (two (at_run h 3) (at_run h 4) refl) refl)
  own_on l.AccessorMember a b p h = all (two (at_run h 2) (two (at_run h 3) (at_run h 4) refl) refl)
  own_on l.FieldMember a b p h = all (two (at_run h 1) (may_run h 2) refl)
  own_on l.AccessorField a b p h = all (two (at_run h 1) (may_run h 2) refl)
  own_on l.TypedMethodMember a b p h = all (two_in 1 0 2 refl (at_in h 2 0) refl)
  own_on l.TypedGeneratorMember a b p h = all (two_in 1 0 2 refl (at_in h 2 0) refl)
  own_on l.TypedAsyncMember a b p h = all (two_in 2 0 2 refl (at_in h 3 0) refl)
  own_on l.TypedAccessorMember a b p h = all (two_in 2 0 2 refl (at_in h 3 0) refl)
  own_on l.TypedFieldMember a b p h = all (two (at_run h 1) (may_run h 4) refl)
  own_on l.TypedAccessorField a b p h = all (two (at_run h 1) (may_run h 4) refl)
  -- patterns and parameters
  own_on l.ArrayPattern a b p h =
      all (each_run h 0 (λ turn. may turn 0) (λ c d v i. all (may_run i 0)))
  own_on l.ObjectPattern a b p h = all (turns_run h 0 0)
  own_on l.RestPattern a b p h = all (at_run h 0)
  own_on l.DefaultPattern a b p h = all (two (at_run h 0) (at_run h 1) refl)
  own_on l.RestProperty a b p h = all (at_run h 0)
  own_on l.KeyPattern a b p h = all (two (at_run h 0) (two (at_run h 1) (may_run h 2) refl) refl)
  own_on l.NameProperty a b p h = all (may_run h 1)
  own_on l.DefaultParameter a b p h = all (two (at_run h 0) (at_run h 1) refl)
  own_on l.MarkedParameter a b p h = all (two (at_run h 0) (may_run h 3) refl)
  own_on l.PropertyParameter a b p h = all (two (at_run h 1) (may_run h 4) refl)
  own_on l.ThisParameter a b p h = all (may_run h 3)
  own_on l.Parameters a b p h = all (two (turns_run h 0 0) (may_run h 1) refl)
  own_on l.TypedParameters a b p h = all (two (turns_run h 0 0) (may_run h 1) refl)
  own_on l.Signature a b p h = all (at_run h 0)
  own_on l.TypedSignature a b p h = all (at_run h 1)
  -- statements and declarations
  own_on l.Block a b p h = all (turns_run h 0 0)
  own_on l.ExpressionStatement a b p h = all (at_run h 0)
  own_on l.LabelledStatement a b p h = all (at_run h 1)
  own_on l.IfStatement a b p h = all (two (two (at_run h 0) (at_run h 1) refl) (may_run h 2) refl)
  own_on l.ForStatement a b p h =
      all (two (two (two (first_run h) (may_run h 3) refl) (may_run h 4) refl) (at_run h 5) refl)
  own_on l.ForEachStatement a b p h = all (two (two (at_run h 0) (at_in h 1 1) refl) (at_run h 2) refl)
  own_on l.ForAwaitStatement a b p h = all (two (two (at_run h 0) (at_run h 1) refl) (at_run h 2) refl)
  own_on l.WhileStatement a b p h = all (two (at_run h 0) (at_run h 1) refl)
  own_on l.DoStatement a b p h = all (two (at_run h 0) (at_run h 1) refl)
  own_on l.ReturnStatement a b p h = all (returned_run h)
  own_on l.ThrowStatement a b p h = all (at_run h 0)
  own_on l.SwitchStatement a b p h =
      all (two (at_run h 0)
      (each_run h 1 (λ turn. may turn 0 ++ turns turn 1 0)
      (λ c d v i. all (two (may_run i 0) (turns_run i 1 0) refl))) refl)
  own_on l.TryStatement a b p h = all (two (at_run h 0) (handled_run h 1) refl)
  own_on l.TypedTryStatement a b p h = all (two (at_run h 0) (handled_run h 1) refl)
  own_on l.WithStatement a b p h = all (two (at_run h 0) (at_run h 1) refl)
  own_on l.VariableDeclaration a b p h = all (at_run h 0)
  own_on l.UsingDeclaration a b p h = all (at_run h 0)
  own_on l.Variables a b p h = all (two (at_run h 1) (turns_run h 2 0) refl)
  own_on l.Using a b p h = all (two (at_run h 1) (turns_run h 2 0) refl)
  own_on l.Declarator a b p h = all (two (at_run h 0) (at_run h 1) refl)
  own_on l.TypedDeclarator a b p h = all (two (at_run h 0) (may_run h 3) refl)
  own_on l.VariableHead a b p h = all (at_run h 1)
  own_on l.TypedVariableHead a b p h = all (at_run h 1)
  own_on l.Declared a b p h = all (at_run h 0)
  own_on l.DeclaredVariables a b p h = all (at_run h 0)
  own_on l.EnumDeclaration a b p h =
      all (each_run h 2 (λ turn. at turn 0 ++ may turn 1) (λ c d v i. all (two
      (at_run i 0) (may_run i 1) refl)))
  own_on l.NamespaceDeclaration a b p h = all (turns_run h 2 0)
  own_on l.ModuleDeclaration a b p h = all (turns_in h 1 0 0)
  own_on l.GlobalDeclaration a b p h = all (turns_run h 0 0)
  own_on _ a b p h = nothing (ahead h)
