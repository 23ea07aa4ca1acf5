-- What holds of all further parts of a chain, and of what a chain becomes.
use Rattle.std.specs.Prelude.{ℕ, zero, suc, Bool, true, false, List, [], ◌∷◌, Option, Some, None, option_map, length, take, drop, min, ◌≤◌}
use Rattle.std.proofs.Common.{◌≡◌, refl, sym, subst, arith, length-drop}
use Rattle.base.specs.declared.range.Range.{Range}
use Rattle.es_token.specs.declared.token.Token.{Token}
use Rattle.es_grammar.specs.declared.rows.NodeKind.{NodeKind}
use Rattle.es_grammar.specs.declared.rows.NodeKind.TheVariants as l
use Rattle.es_ast.specs.declared.ts.leaf.Ident.{Ident}
use Rattle.es_ast.specs.declared.ts.ts.TsPart.{TsPart}
use Rattle.es_ast.specs.declared.ast.Expr.{Expr}
use Rattle.es_ast.specs.declared.ast.Expr.TheVariants as vExpr
use Rattle.es_lowering.specs.Value.{Value, absent, nil, more, token, node, given, typed, part, as_group, group, turns, expr_at, args_at, post_at}
use Rattle.es_lowering.specs.Texts.{span_of, token_of, property_of, property_at}
use Rattle.es_lowering.specs.TypedParts.{args_part_at}
use Rattle.es_lowering.specs.Expressions as exprs
use Rattle.es_lowering.specs.Expressions.{Post, chained, from_byte, optional_inner, optional_of}
use Rattle.es_lowering.specs.TypedExpressions as typed_exprs
use Rattle.es_lowering.specs.TypedExpressions.{typed_call, typed_optional_inner, typed_optional_of}
use Rattle.es_lowering.specs.Lowering.{same_label, post_of, build, as_target}
use Rattle.es_syntax.specs.declared.entry.Lean.{Lean}
use Rattle.es_syntax.specs.declared.entry.Lean.TheVariants as vLean
use Rattle.es_syntax.specs.declared.entry.Entry.{Entry}
use Rattle.es_syntax.specs.declared.entry.What.{What}
use Rattle.es_syntax.specs.declared.entry.What.TheVariants as vWhat
use Rattle.es_syntax.specs.Held.{made, held, parts_of, label_of, leant}
use Rattle.es_syntax.proofs.Others.{in_held, in_role, in_leant}
use Rattle.es_syntax.proofs.Rows.{held_nothing, held_some, held_group, group_role, group_leant}
use Rattle.es_expr_spans.proofs.Given.{Of, one, none, absent as absent_of, of_given, of_mapped, of_if}

-- what holds of each form of a part that stands over this range
pub record EachPost (Q : Post → Type 0) (r : Range) : Type 0 where
  pub member : (mark : Bool) (m : Bool × Ident) → Q (exprs.member_of mark r m)
  pub index : (mark : Bool) (e : Expr) → Q (exprs.index_of mark r e)
  pub call : (mark : Bool) (type_args : Option TsPart) (args : List Expr)
      → Q (typed_exprs.typed_call_of mark r type_args args)
  pub tagged : (type_args : Option TsPart) (tpl : Expr) → Q (typed_exprs.typed_tagged_of r type_args tpl)
  pub non_null : Q (typed_exprs.non_null_of r)

module _ (Q : Post → Type 0) (x : List ℕ) (ts : List Token) (r : Range) (each : EachPost Q r) where
  typed_call_post : (mark : Bool) (p : Value) → Of Q (typed_call mark r p)
  typed_call_post mark p =
      of_given Q (args_part_at p 0)
      (λ type_args. of_given Q (args_at p 1) (λ args. one Q (each.call mark type_args args)))

  plain_call : (v : Value) → Of Q (option_map (exprs.call_of true r) (given (typed v) (λ m. m.args)))
  plain_call v = of_mapped Q (given (typed v) (λ m. m.args)) (λ args. each.call true None args)

  inner : (v : Value) → Of Q (optional_inner x ts r v)
  inner (token n) = of_mapped Q (given (token_of ts (token n)) (property_of x)) (each.member true)
  inner absent = plain_call absent
  inner nil = plain_call nil
  inner (more v vs) = plain_call (more v vs)
  inner (node from to m) = plain_call (node from to m)

  optional_post : (v : Value) → Of Q (optional_of x ts r v)
  optional_post (node from to m) = of_mapped Q m.expr (each.index true)
  optional_post absent = inner (part (as_group absent) 0)
  optional_post nil = inner (part (as_group nil) 0)
  optional_post (more v vs) = inner (part (as_group (more v vs)) 0)
  optional_post (token n) = inner (part (as_group (token n)) 0)

  typed_inner : (v : Value) → Of Q (typed_optional_inner x ts r v)
  typed_inner (more (token n) vs) = of_mapped Q (given (token_of ts (token n)) (property_of x)) (each.member true)
  typed_inner (more absent vs) = typed_call_post true (more absent vs)
  typed_inner (more nil vs) = typed_call_post true (more nil vs)
  typed_inner (more (more v ws) vs) = typed_call_post true (more (more v ws) vs)
  typed_inner (more (node from to m) vs) = typed_call_post true (more (node from to m) vs)
  typed_inner absent = typed_call_post true absent
  typed_inner nil = typed_call_post true nil
  typed_inner (token n) = typed_call_post true (token n)
  typed_inner (node from to m) = typed_call_post true (node from to m)

  typed_optional : (v : Value) → Of Q (typed_optional_of x ts r v)
  typed_optional (node from to m) = of_mapped Q m.expr (each.index true)
  typed_optional absent = typed_inner (as_group absent)
  typed_optional nil = typed_inner (as_group nil)
  typed_optional (more v vs) = typed_inner (as_group (more v vs))
  typed_optional (token n) = typed_inner (as_group (token n))

  pub post_forms : (label : NodeKind) (p : Value) → Of Q (post_of x ts label r p)
  unfolding post_of exprs.member_post exprs.index_post exprs.call_post exprs.template_post exprs.optional_post
      typed_exprs.typed_call_post typed_exprs.typed_template_post typed_exprs.typed_optional_post
      typed_exprs.non_null_post
  post_forms label p =
      of_if Q (same_label label l.MemberPost) (of_mapped Q (property_at x ts p 0) (each.member false))
      (of_if Q (same_label label l.IndexPost) (of_mapped Q (expr_at p 0) (each.index false))
      (of_if Q (same_label label l.CallPost) (of_mapped Q (args_at p 0) (λ args. each.call false None args))
      (of_if Q (same_label label l.TemplatePost) (of_mapped Q (expr_at p 0) (λ tpl. each.tagged None tpl))
      (of_if Q (same_label label l.OptionalPost) (optional_post (part (group p 0) 0))
      (of_if Q (same_label label l.TypedCallPost) (typed_call_post false p)
      (of_if Q (same_label label l.TypedTemplatePost)
      (of_given Q (args_part_at p 0) (λ type_args. of_mapped Q (expr_at p 1) (each.tagged type_args)))
      (of_if Q (same_label label l.TypedOptionalPost) (typed_optional (part (group p 0) 0))
      (of_if Q (same_label label l.NonNullPost) (one Q each.non_null) (none Q)))))))))

-- ---- at a place of a row
module _ (Q : Range → Post → Type 0) (x : List ℕ) (ts : List Token) (each : (r : Range) → EachPost (Q r) r) where
  leaning : (lean : Lean) (from : ℕ) (r : Range) (p : Value) → (build x ts (label_of lean) from r p).post ≡ None
  unfolding build post_of
  leaning vLean.Binary from r p = refl
  leaning vLean.TypedBinary from r p = refl

  pub place_posts : (what : What) (from to : ℕ) (es : List Entry)
      → Of (Q (span_of ts from to))
      (given (typed (made x ts what from to (held x ts es) (parts_of x ts es))) (λ m. m.post))
  unfolding build
  place_posts vWhat.Leaf from to es = none (Q (span_of ts from to))
  place_posts (vWhat.Node label) from to es =
      post_forms (Q (span_of ts from to)) x ts (span_of ts from to) (each (span_of ts from to)) label (held x ts es)
  place_posts (vWhat.Role label) from to es =
      absent_of (Q (span_of ts from to)) _ (in_role x ts (λ m. m.post) (λ e. refl) (part (held x ts es) 0))
  place_posts vWhat.Parts from to es = absent_of (Q (span_of ts from to)) _ (in_held x ts (λ m. m.post) es)
  place_posts (vWhat.Lean lean) from to es =
      absent_of (Q (span_of ts from to)) _ (in_leant x ts (λ m. m.post) leaning lean from (parts_of x ts es))

-- ---- what a chain becomes, whatever it begins with
pub record EachLink (P : Expr → Type 0) : Type 0 where
  pub member : (obj : Expr) (mark hidden : Bool) (prop : Ident) (r : Range) → P (vExpr.Member obj mark hidden prop r)
  pub index : (obj : Expr) (mark : Bool) (e : Expr) (r : Range) → P (vExpr.Index obj mark e r)
  pub call : (obj : Expr) (mark : Bool) (type_args : Option TsPart) (args : List Expr) (r : Range)
      → P (vExpr.Call obj mark type_args args r)
  pub tagged : (obj : Expr) (type_args : Option TsPart) (tpl : Expr) (r : Range)
      → P (vExpr.TaggedTpl obj type_args tpl r)
  pub non_null : (obj : Expr) (r : Range) → P (vExpr.TsNonNull obj r)

-- whatever stands before it, the claim holds of what the part makes
abbrev pub Links : (Expr → Type 0) → Post → Type 0
Links P post = (start : ℕ) (obj : Expr) → P (post start obj)

abbrev AllLinks : (Expr → Type 0) → List Post → Type 0
AllLinks P [] = Unit {0}
AllLinks P (post ∷ posts) = Links P post × AllLinks P posts

module _ (P : Expr → Type 0) (x : List ℕ) (ts : List Token) (each : EachLink P) where
  links : (r : Range) → EachPost (Links P) r
  links r = record {
    member = λ mark m start obj. each.member obj mark m.0 m.1 (from_byte start r);
    index = λ mark e start obj. each.index obj mark e (from_byte start r);
    call = λ mark type_args args start obj. each.call obj mark type_args args (from_byte start r);
    tagged = λ type_args tpl start obj. each.tagged obj type_args tpl (from_byte start r);
    non_null = λ start obj. each.non_null obj (from_byte start r);
  }

  place : (what : What) (from to : ℕ) (es : List Entry)
      → Of (Links P) (given (typed (made x ts what from to (held x ts es) (parts_of x ts es))) (λ m. m.post))
  place what from to es = place_posts (λ r. Links P) x ts links what from to es

  -- of the part at a place of a row
  abbrev At : ℕ → Value → Type 0
  At n v = Of (Links P) (post_at v n)

  part_links : (fuel : ℕ) (es : List Entry) (n : ℕ) → length es ≤ fuel → At n (held x ts es)
  part_links fuel [] n h = let R : Value → Type 0 = λ v. At n v in subst R (sym (held_nothing x ts)) (none (Links P))
  part_links zero (y ∷ es) n h = absurd (omega arith)
  part_links (suc fuel) (y ∷ es) zero h =
      let R : Value → Type 0 = λ v. At zero v in
      subst R (sym (held_some x ts y es)) (place y.what y.from y.to (take (min y.size (length es)) es))
  part_links (suc fuel) (y ∷ es) (suc n) h =
      let R : Value → Type 0 = λ v. At (suc n) v in
      subst R (sym (held_some x ts y es))
      (part_links fuel (drop (min y.size (length es)) es) n (omega (arith, length-drop {A = Entry})))

  more_links : (post : Option Post) (posts : Option (List Post)) → Of (Links P) post → Of (AllLinks P) posts
      → Of (AllLinks P) (given post (λ post. given posts (λ posts. Some (post ∷ posts))))
  more_links None posts a b = none (AllLinks P)
  more_links (Some post) None a b = none (AllLinks P)
  more_links (Some post) (Some posts) a b = one (AllLinks P) (a.is, b.is)

  -- a part of a turn: a turn that is no group has none
  abbrev InTurn : Value → Type 0
  InTurn v = Of (Links P) (post_at (as_group v) 0)

  no_group : (v : Value) → as_group v ≡ nil → InTurn v
  no_group v e = let R : Value → Type 0 = λ g. Of (Links P) (post_at g 0) in subst R (sym e) (none (Links P))

  turn_links : (what : What) (from to : ℕ) (es : List Entry)
      → InTurn (made x ts what from to (held x ts es) (parts_of x ts es))
  turn_links vWhat.Leaf from to es = no_group (token from) refl
  turn_links (vWhat.Node label) from to es =
      no_group (made x ts (vWhat.Node label) from to (held x ts es) (parts_of x ts es)) refl
  turn_links (vWhat.Role label) from to es =
      no_group (as_target x ts (part (held x ts es) 0)) (group_role x ts (part (held x ts es) 0))
  turn_links vWhat.Parts from to es =
      let R : Value → Type 0 = λ v. Of (Links P) (post_at v 0) in
      subst R (sym (held_group x ts es)) (part_links (length es) es 0 (omega arith))
  turn_links (vWhat.Lean lean) from to es =
      no_group (leant x ts lean from (parts_of x ts es)) (group_leant x ts lean from (parts_of x ts es))

  abbrev Turns : Value → Type 0
  Turns v = Of (AllLinks P) (turns (λ turn. post_at turn 0) v)

  turns_links : (fuel : ℕ) (es : List Entry) → length es ≤ fuel → Turns (held x ts es)
  turns_links fuel [] h =
      let R : Value → Type 0 = λ v. Turns v in subst R (sym (held_nothing x ts)) (one (AllLinks P) tt)
  turns_links zero (y ∷ es) h = absurd (omega arith)
  turns_links (suc fuel) (y ∷ es) h =
      let R : Value → Type 0 = λ v. Turns v in
      subst R (sym (held_some x ts y es))
      (more_links (post_at
      (as_group (made x ts y.what y.from y.to (held x ts (take (min y.size (length es)) es))
      (parts_of x ts (take (min y.size (length es)) es)))) 0)
      (turns (λ turn. post_at turn 0) (held x ts (drop (min y.size (length es)) es)))
      (turn_links y.what y.from y.to (take (min y.size (length es)) es))
      (turns_links fuel (drop (min y.size (length es)) es) (omega (arith, length-drop {A = Entry}))))

  -- the group at a place of a row, as turns
  no_turns : (v : Value) → as_group v ≡ nil → Turns (as_group v)
  no_turns v e = let R : Value → Type 0 = λ g. Turns g in subst R (sym e) (one (AllLinks P) tt)

  group_links : (what : What) (from to : ℕ) (es : List Entry)
      → Turns (as_group (made x ts what from to (held x ts es) (parts_of x ts es)))
  group_links vWhat.Leaf from to es = no_turns (token from) refl
  group_links (vWhat.Node label) from to es =
      no_turns (made x ts (vWhat.Node label) from to (held x ts es) (parts_of x ts es)) refl
  group_links (vWhat.Role label) from to es =
      no_turns (as_target x ts (part (held x ts es) 0)) (group_role x ts (part (held x ts es) 0))
  group_links vWhat.Parts from to es =
      let R : Value → Type 0 = λ v. Turns v in
      subst R (sym (held_group x ts es)) (turns_links (length es) es (omega arith))
  group_links (vWhat.Lean lean) from to es =
      no_turns (leant x ts lean from (parts_of x ts es)) (group_leant x ts lean from (parts_of x ts es))

  others_links : (fuel : ℕ) (es : List Entry) (n : ℕ) → length es ≤ fuel → Turns (group (held x ts es) n)
  others_links fuel [] n h =
      let R : Value → Type 0 = λ v. Turns (group v n) in subst R (sym (held_nothing x ts)) (one (AllLinks P) tt)
  others_links zero (y ∷ es) n h = absurd (omega arith)
  others_links (suc fuel) (y ∷ es) zero h =
      let R : Value → Type 0 = λ v. Turns (group v zero) in
      subst R (sym (held_some x ts y es)) (group_links y.what y.from y.to (take (min y.size (length es)) es))
  others_links (suc fuel) (y ∷ es) (suc n) h =
      let R : Value → Type 0 = λ v. Turns (group v (suc n)) in
      subst R (sym (held_some x ts y es))
      (others_links fuel (drop (min y.size (length es)) es) n (omega (arith, length-drop {A = Entry})))

  -- the last part decides
  last_link : (start : ℕ) (obj : Expr) (post : Post) (posts : List Post) → Links P post → AllLinks P posts
      → P (chained start obj (post ∷ posts))
  last_link start obj post [] link links = link start obj
  last_link start obj post (next ∷ posts) link links = last_link start (post start obj) next posts links.0 links.1

  chain_of : (start : ℕ) (base : Option Expr) (first : Option Post) (others : Option (List Post)) → Of (Links P) first
      → Of (AllLinks P) others
      → Of P (given base (λ base. given first
      (λ first. given others (λ others. Some (chained start base (first ∷ others))))))
  chain_of start None first others a b = none P
  chain_of start (Some base) None others a b = none P
  chain_of start (Some base) (Some first) None a b = none P
  chain_of start (Some base) (Some first) (Some others) a b = one P (last_link start base first others a.is b.is)

  pub chain : (r : Range) (es : List Entry) → Of P (exprs.chain r (held x ts es))
  unfolding exprs.chain
  chain r es =
      chain_of r.start (expr_at (held x ts es) 0) (post_at (held x ts es) 1)
      (turns (λ turn. post_at turn 0) (group (held x ts es) 2)) (part_links (length es) es 1 (omega arith))
      (others_links (length es) es 2 (omega arith))
