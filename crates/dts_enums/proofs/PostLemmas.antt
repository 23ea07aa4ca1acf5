-- What further parts of a chain make of a value, by what was read of them.
use Rattle.std.specs.Prelude.{ℕ, Bool, true, false, ◌&&◌, List, [], ◌∷◌, Option, Some, None, option_map, if◌then◌else◌, IfSome}
use Rattle.std.proofs.Common.{◌≡◌, refl, sym, ap, subst, ◌∙◌}
use Rattle.base.specs.declared.range.Range.{Range}
use Rattle.es_token.specs.declared.token.Token.{Token}
use Rattle.es_grammar.specs.declared.rows.NodeKind.{NodeKind}
use Rattle.es_grammar.specs.declared.rows.NodeKind.TheVariants as l
use Rattle.es_ast.specs.declared.ts.leaf.Ident.{Ident}
use Rattle.es_ast.specs.declared.ts.ts.TsPart.{TsPart}
use Rattle.es_ast.specs.declared.ast.Expr.{Expr}
use Rattle.es_lowering.specs.Value.{Value, absent, nil, more, token, node, given, typed, part, as_group, group, turns, expr_at, args_at, post_at}
use Rattle.es_lowering.specs.Texts.{span_of, token_of, property_of, property_at}
use Rattle.es_lowering.specs.TypedParts.{args_part_at}
use Rattle.es_lowering.specs.Expressions as exprs
use Rattle.es_lowering.specs.Expressions.{Post, chained, from_byte, optional_inner, optional_of}
use Rattle.es_lowering.specs.TypedExpressions as typed_exprs
use Rattle.es_lowering.specs.TypedExpressions.{typed_call, typed_optional_inner, typed_optional_of}
use Rattle.es_lowering.specs.Lowering.{same_label, post_of, build, as_target}
use Rattle.es_syntax.specs.declared.entry.Lean.{Lean}
use Rattle.es_syntax.specs.declared.entry.Lean.TheVariants as vLean
use Rattle.es_syntax.specs.declared.entry.Entry.{Entry}
use Rattle.es_syntax.specs.Held.{Held, held, node_of, leaning, leaned, leant, parts_of, label_of}
use Rattle.es_syntax.specs.Roles.{post_in}
use Rattle.es_syntax.specs.Views.{is_one_of}
use Rattle.es_syntax.proofs.Others.{in_held, in_role, in_leant}
use Rattle.es_syntax.proofs.Rows.{token_role, token_held, token_leant}
use Rattle.es_expr_spans.proofs.Given.{Of, one, none, of_given, of_mapped, of_if, of_other}
use Rattle.dts_rules.specs.Rules.{Env}
use Rattle.dts_rules.specs.Programs.{shown_expr}
use Rattle.dts_enums.specs.Forms.{access_labels, Access, Optional, Along, Starts}
use Rattle.dts_enums.proofs.StartForms as start

module _ (env : Env) where
  -- what it makes is kept where this is so and what precedes it is kept
  abbrev Is : Bool → Post → Type 0
  Is b post = (start : ℕ) (obj : Expr)
      → (shown_expr env (post start obj)).starts_enum ≡ (b && (shown_expr env obj).starts_enum)

  member : (mark : Bool) (r : Range) (m : Bool × Ident) → Is true (exprs.member_of mark r m)
  member mark r m s obj = start.starts_Member env obj mark m.0 m.1 (from_byte s r)

  index : (mark : Bool) (r : Range) (e : Expr) → Is true (exprs.index_of mark r e)
  index mark r e s obj = start.starts_Index env obj mark e (from_byte s r)

  call : (mark : Bool) (r : Range) (ty : Option TsPart) (args : List Expr)
      → Is false (typed_exprs.typed_call_of mark r ty args)
  call mark r ty args s obj = start.starts_Call env obj mark ty args (from_byte s r)

  tagged : (r : Range) (ty : Option TsPart) (tpl : Expr) → Is false (typed_exprs.typed_tagged_of r ty tpl)
  tagged r ty tpl s obj = start.starts_TaggedTpl env obj ty tpl (from_byte s r)

  non_null : (r : Range) → Is false (typed_exprs.non_null_of r)
  non_null r s obj = start.starts_TsNonNull env obj (from_byte s r)

  module _ (x : List ℕ) (ts : List Token) (r : Range) where
    -- ---- after `?.`
    plain_call : (v : Value) → Of (Is false) (option_map (exprs.call_of true r) (given (typed v) (λ m. m.args)))
    plain_call v = of_mapped (Is false) (given (typed v) (λ m. m.args)) (λ args. call true r None args)

    typed_called : (v : Value) → Of (Is false) (typed_call true r v)
    typed_called v =
        of_given (Is false) (args_part_at v 0) (λ ty.
        of_given (Is false) (args_at v 1) (λ args. one (Is false) (call true r ty args)))

    -- what is no token is called
    inner : (v : Value) → token_of ts v ≡ None → Of (Is false) (optional_inner x ts r v)
    inner (token n) e =
        let P : Option Token → Type 0 =
        λ t. Of (Is false) (option_map (exprs.member_of true r) (given t (property_of x))) in
        subst P (sym e) (none (Is false))
    inner absent e = plain_call absent
    inner nil e = plain_call nil
    inner (more v vs) e = plain_call (more v vs)
    inner (node from to m) e = plain_call (node from to m)

    typed_inner : (v vs : Value) → token_of ts v ≡ None → Of (Is false) (typed_optional_inner x ts r (more v vs))
    typed_inner (token n) vs e =
        let P : Option Token → Type 0 =
        λ t. Of (Is false) (option_map (exprs.member_of true r) (given t (property_of x))) in
        subst P (sym e) (none (Is false))
    typed_inner absent vs e = typed_called (more absent vs)
    typed_inner nil vs e = typed_called (more nil vs)
    typed_inner (more v ws) vs e = typed_called (more (more v ws) vs)
    typed_inner (node from to m) vs e = typed_called (more (node from to m) vs)

    nameless : (v vs : Value) → token_of ts v ≡ None → Optional env x ts r false (more v vs)
    nameless v vs e = record { plain = (inner v e).is; typed = (typed_inner v vs e).is }

    pub leaf_named : (n : ℕ) (vs : Value) → Optional env x ts r true (more (token n) vs)
    leaf_named n vs = record {
      plain = (of_mapped (Is true) (given (token_of ts (token n)) (property_of x)) (member true r)).is;
      typed = (of_mapped (Is true) (given (token_of ts (token n)) (property_of x)) (member true r)).is;
    }

    pub node_named : (label : NodeKind) (from to : ℕ) (p vs : Value)
        → Optional env x ts r false (more (node_of x ts label from to p) vs)
    node_named label from to p vs = nameless (node_of x ts label from to p) vs refl

    pub role_named : (v vs : Value) → Optional env x ts r false (more (as_target x ts v) vs)
    role_named v vs = nameless (as_target x ts v) vs (token_role x ts v)

    pub parts_named : (es : List Entry) (vs : Value) → Optional env x ts r false (more (held x ts es) vs)
    parts_named es vs = nameless (held x ts es) vs (token_held x ts es)

    pub lean_named : (lean : Lean) (from : ℕ) (es : List Entry) (vs : Value)
        → Optional env x ts r false (more (leant x ts lean from (parts_of x ts es)) vs)
    lean_named lean from es vs =
        nameless (leant x ts lean from (parts_of x ts es)) vs (token_leant x ts lean from (parts_of x ts es))

    pub group_named : (row v vs : Value) (b : Bool) → row ≡ more v vs
        → ((vs : Value) → Optional env x ts r b (more v vs)) → Optional env x ts r b row
    group_named row v vs b e known =
        let P : Value → Type 0 = λ row. Optional env x ts r b row in subst P (sym e) (known vs)

    pub nothing_named : (row : Value) (b : Bool) → row ≡ nil → Optional env x ts r b row
    nothing_named row b e = let P : Value → Type 0 = λ row. Optional env x ts r b row in
        subst P (sym e) (record { plain = tt; typed = tt })

    pub leaf_optional : (n : ℕ) (b : Bool) → Optional env x ts r b (token n)
    leaf_optional n b = record { plain = tt; typed = tt }

    indexed : (o : Option Expr) → IfSome (option_map (exprs.index_of true r) o) (Is true)
    indexed o = (of_mapped (Is true) o (index true r)).is

    pub node_optional : (label : NodeKind) (from to : ℕ) (p : Value)
        → Optional env x ts r true (node_of x ts label from to p)
    node_optional label from to p = record {
      plain = indexed (build x ts label from (span_of ts from to) p).expr;
      typed = indexed (build x ts label from (span_of ts from to) p).expr;
    }

    pub role_optional : (v : Value) (b : Bool) → Optional env x ts r b (as_target x ts v)
    role_optional absent b = record { plain = tt; typed = tt }
    role_optional nil b = record { plain = tt; typed = tt }
    role_optional (more v vs) b = record { plain = tt; typed = tt }
    role_optional (token n) b = record { plain = tt; typed = tt }
    role_optional (node from to m) b = record { plain = tt; typed = tt }

    leaned_optional : (lean : Lean) (from : ℕ) (v : Value) (ps : List Held) → Optional env x ts r true v
        → Optional env x ts r true (leaned x ts lean from v ps)
    unfolding leaned
    leaned_optional lean from v [] known = known
    leaned_optional lean from v (p ∷ ps) known =
        leaned_optional lean from (leaning x ts lean from v p) ps
        (node_optional (label_of lean) from p.0 (more v (as_group p.1)))

    pub lean_optional : (lean : Lean) (from : ℕ) (es : List Entry)
        → Optional env x ts r true (leant x ts lean from (parts_of x ts es))
    lean_optional lean from es = go (parts_of x ts es)
      where
        go : (ps : List Held) → Optional env x ts r true (leant x ts lean from ps)
        go [] = record { plain = tt; typed = tt }
        go (p ∷ []) = record { plain = tt; typed = tt }
        go (p ∷ q ∷ ps) =
            leaned_optional lean from (leaning x ts lean from p.1 q) ps
            (node_optional (label_of lean) from q.0 (more p.1 (as_group q.1)))

    pub optional_there : (w v : Value) (b : Bool) → w ≡ v → Optional env x ts r b v → Optional env x ts r b w
    optional_there w v b e known = let P : Value → Type 0 = λ v. Optional env x ts r b v in subst P (sym e) known

    pub optional_none : (w : Value) (b : Bool) → w ≡ absent → Optional env x ts r b w
    optional_none w b e = optional_there w absent b e (record { plain = tt; typed = tt })

    -- ---- by alternatives
    pub member_access : (p : Value) → Access env true (post_of x ts l.MemberPost r p)
    unfolding post_of exprs.member_post
    member_access p = (of_mapped (Is true) (property_at x ts p 0) (member false r)).is

    pub index_access : (p : Value) → Access env true (post_of x ts l.IndexPost r p)
    unfolding post_of exprs.index_post
    index_access p = (of_mapped (Is true) (expr_at p 0) (index false r)).is

    pub optional_access : (p g : Value) (b : Bool) → g ≡ group p 0 → Optional env x ts r b (part g 0)
        → Access env b (post_of x ts l.OptionalPost r p)
    unfolding post_of exprs.optional_post
    optional_access p g b e known =
        let P : Value → Type 0 = λ g. Optional env x ts r b (part g 0) in (subst P e known).plain

    pub typed_optional_access : (p g : Value) (b : Bool) → g ≡ group p 0 → Optional env x ts r b (part g 0)
        → Access env b (post_of x ts l.TypedOptionalPost r p)
    unfolding post_of typed_exprs.typed_optional_post
    typed_optional_access p g b e known =
        let P : Value → Type 0 = λ g. Optional env x ts r b (part g 0) in (subst P e known).typed

    abbrev Others : NodeKind → Type 0
    Others label =
        (same_label label l.MemberPost ≡ false) × (same_label label l.IndexPost ≡ false)
        × (same_label label l.OptionalPost ≡ false) × (same_label label l.TypedOptionalPost ≡ false)

    other_posts : (label : NodeKind) (p : Value) → Others label → Of (Is false) (post_of x ts label r p)
    unfolding post_of exprs.call_post exprs.template_post typed_exprs.typed_call_post typed_exprs.typed_template_post
        typed_exprs.non_null_post
    other_posts label p e =
        of_other (Is false) (same_label label l.MemberPost) (exprs.member_post x ts r p) e.0
        (of_other (Is false) (same_label label l.IndexPost) (exprs.index_post r p) e.1
        (of_if (Is false) (same_label label l.CallPost)
        (of_mapped (Is false) (args_at p 0) (λ args. call false r None args))
        (of_if (Is false) (same_label label l.TemplatePost)
        (of_mapped (Is false) (expr_at p 0) (λ tpl. tagged r None tpl))
        (of_other (Is false) (same_label label l.OptionalPost) (exprs.optional_post x ts r p) e.2
        (of_if (Is false) (same_label label l.TypedCallPost)
        (of_given (Is false) (args_part_at p 0) (λ ty.
        of_given (Is false) (args_at p 1) (λ args. one (Is false) (call false r ty args))))
        (of_if (Is false) (same_label label l.TypedTemplatePost)
        (of_given (Is false) (args_part_at p 0) (λ ty. of_mapped (Is false) (expr_at p 1) (tagged r ty)))
        (of_other (Is false) (same_label label l.TypedOptionalPost) (typed_exprs.typed_optional_post x ts r p) e.3
        (of_if (Is false) (same_label label l.NonNullPost) (one (Is false) (non_null r)) (none (Is false))))))))))

    first : (b rest : Bool) → (if b then true else rest) ≡ false → (b ≡ false) × (rest ≡ false)
    first true rest e = let bad : ⊥ = cc in absurd bad
    first false rest e = (refl, e)

    others : (label : NodeKind) → is_one_of access_labels label ≡ false → Others label
    others label e =
        let a = first (same_label label l.MemberPost) _ e in
        let b = first (same_label label l.IndexPost) _ a.1 in
        let c = first (same_label label l.OptionalPost) _ b.1 in
        let d = first (same_label label l.TypedOptionalPost) _ c.1 in
        (a.0, b.0, c.0, d.0)

  -- ---- at a place of a row
  module _ (x : List ℕ) (ts : List Token) where
    pub own_post : (label : NodeKind) (from to : ℕ) (p : Value) (b : Bool) → is_one_of access_labels label ≡ true
        → (is_one_of access_labels label ≡ true → (r : Range) → Access env b (post_of x ts label r p))
        → Access env b (post_in (node_of x ts label from to p))
    unfolding build
    own_post label from to p b e known = known e (span_of ts from to)

    pub other_post : (label : NodeKind) (from to : ℕ) (p : Value) → is_one_of access_labels label ≡ false
        → Access env false (post_in (node_of x ts label from to p))
    unfolding build
    other_post label from to p e =
        (other_posts x ts (span_of ts from to) label p (others x ts (span_of ts from to) label e)).is

    no_post : (b : Bool) (o : Option Post) → o ≡ None → Access env b o
    no_post b o e = let P : Option Post → Type 0 = λ o. Access env b o in subst P (sym e) tt

    pub role_post : (v : Value) (b : Bool) → Access env b (post_in (as_target x ts v))
    role_post v b = no_post b _ (in_role x ts (λ m. m.post) (λ e. refl) v)

    pub parts_post : (es : List Entry) (b : Bool) → Access env b (post_in (held x ts es))
    parts_post es b = no_post b _ (in_held x ts (λ m. m.post) es)

    leaning_post : (lean : Lean) (from : ℕ) (r : Range) (p : Value) → (build x ts (label_of lean) from r p).post ≡ None
    unfolding build post_of
    leaning_post vLean.Binary from r p = refl
    leaning_post vLean.TypedBinary from r p = refl

    pub lean_post : (lean : Lean) (from : ℕ) (es : List Entry) (b : Bool)
        → Access env b (post_in (leant x ts lean from (parts_of x ts es)))
    lean_post lean from es b = no_post b _ (in_leant x ts (λ m. m.post) leaning_post lean from (parts_of x ts es))

  -- ---- along a chain
  pub turn_access : (g v w : Value) (b : Bool) → g ≡ as_group w → part g 0 ≡ v → Access env b (post_in v)
      → Access env b (post_at (as_group w) 0)
  turn_access g v w b same e known =
      let P : Value → Type 0 = λ v. Access env b (post_in v) in
      subst P (sym (ap (λ (g : Value). part g 0) (sym same) ∙ e)) known

  pub no_turn : (g w : Value) (b : Bool) → g ≡ as_group w → part g 0 ≡ absent → Access env b (post_at (as_group w) 0)
  no_turn g w b same e = turn_access g absent w b same e tt

  pub along_none : (row : Value) (b : Bool) → row ≡ nil → Along env b b row
  along_none row b e = let P : Value → Type 0 = λ row. Along env b b row in subst P (sym e) (λ s obj known. known)

  along_more : (o : Option Post) (os : Option (List Post)) (before b mid after : Bool) → mid ≡ (b && before)
      → Access env b o → ((s : ℕ) (obj : Expr) → (shown_expr env obj).starts_enum ≡ mid
      → IfSome os (λ posts. (shown_expr env (chained s obj posts)).starts_enum ≡ after))
      → (s : ℕ) (obj : Expr) → (shown_expr env obj).starts_enum ≡ before
      → IfSome (given o (λ a. given os (λ rest. Some (a ∷ rest))))
      (λ posts. (shown_expr env (chained s obj posts)).starts_enum ≡ after)
  along_more None os before b mid after m known rest s obj is = tt
  along_more (Some post) None before b mid after m known rest s obj is = tt
  along_more (Some post) (Some posts) before b mid after m known rest s obj is =
      rest s (post s obj) (known s obj ∙ ap (λ c. b && c) is ∙ sym m)

  pub along_next : (row v vs : Value) (before b mid after : Bool) → row ≡ more v vs → mid ≡ (b && before)
      → Access env b (post_at (as_group v) 0) → Along env mid after vs → Along env before after row
  along_next row v vs before b mid after e m known rest =
      let P : Value → Type 0 = λ row. Along env before after row in
      subst P (sym e)
      (along_more (post_at (as_group v) 0) (turns (λ turn. post_at turn 0) vs) before b mid after m known rest)

  chain_by : (r : Range) (base : Option Expr) (first : Option Post) (others : Option (List Post))
      (before b mid after : Bool) → mid ≡ (b && before) → Starts env before base → Access env b first
      → ((s : ℕ) (obj : Expr) → (shown_expr env obj).starts_enum ≡ mid
      → IfSome others (λ posts. (shown_expr env (chained s obj posts)).starts_enum ≡ after))
      → Starts env after (given base
      (λ base. given first (λ first. given others (λ others. Some (chained r.start base (first ∷ others))))))
  chain_by r None first others before b mid after m k f rest = tt
  chain_by r (Some base) None others before b mid after m k f rest = tt
  chain_by r (Some base) (Some first) None before b mid after m k f rest = tt
  chain_by r (Some base) (Some first) (Some others) before b mid after m k f rest =
      rest r.start (first r.start base) (f r.start base ∙ ap (λ c. b && c) k ∙ sym m)

  pub chain_along : (r : Range) (p v row : Value) (before b mid after : Bool) → part p 1 ≡ v → row ≡ group p 2
      → mid ≡ (b && before) → Access env b (post_in v) → Along env mid after row → Starts env before (expr_at p 0)
      → Starts env after (exprs.chain r p)
  unfolding exprs.chain
  chain_along r p v row before b mid after e g m first others base =
      let P : Value → Type 0 = λ v. Access env b (post_in v) in
      let Q : Value → Type 0 = λ row. Along env mid after row in
      chain_by r (expr_at p 0) (post_at p 1) (turns (λ turn. post_at turn 0) (group p 2)) before b mid after m base
      (subst P (sym e) first) (subst Q g others)

  pub no_chain : (r : Range) (p : Value) (b : Bool) → part p 1 ≡ absent → Starts env b (exprs.chain r p)
  unfolding exprs.chain
  no_chain r p b e = go (expr_at p 0) (post_in (part p 1)) (ap post_in e)
    where
      go : (base : Option Expr) (first : Option Post) → first ≡ None
          → Starts env b (given base (λ base. given first (λ first.
          given (turns (λ turn. post_at turn 0) (group p 2)) (λ others.
          Some (chained r.start base (first ∷ others))))))
      go None first e = tt
      go (Some base) None e = tt
      go (Some base) (Some first) e = let bad : ⊥ = cc in absurd bad
