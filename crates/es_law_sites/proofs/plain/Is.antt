-- The sites of what a node is read as are those of its plain tree: what is supposed of the parts.
use Rattle.std.specs.Prelude.{Bool, true, false, not, ◌&&◌, List, ◌++◌, Option, Some, None, if◌then◌else◌}
use Rattle.std.specs.List.{flat_map}
use Rattle.std.proofs.Common.{◌≡◌, ℕ, zero, suc, refl, sym, ap, ◌∙◌, subst}
use denote.Enum.Bare.{same_true}
use Rattle.base.specs.declared.range.Range.{Range}
use Rattle.es_token.specs.declared.token.Token.{Token}
use Rattle.es_ast.specs.declared.ts.leaf.Str.{Str}
use Rattle.es_ast.specs.declared.ts.ts.TsPart.{TsPart}
use Rattle.es_ast.specs.declared.leaf.Lit.TheVariants as vLit
use Rattle.es_ast.specs.declared.leaf.VarDeclKind.{VarDeclKind}
use Rattle.es_ast.specs.declared.leaf.ImportAttributes.{ImportAttributes}
use Rattle.es_ast.specs.declared.ast.Decl.{Decl}
use Rattle.es_ast.specs.declared.ast.Expr.{Expr, out-Expr}
use Rattle.es_ast.specs.declared.ast.Pat.{Pat}
use Rattle.es_ast.specs.declared.ast.Prop.{Prop, out-Prop}
use Rattle.es_ast.specs.declared.ast.VarDeclarator.{VarDeclarator}
use Rattle.es_ast.specs.declared.ast.ClassMember.TheOpen.{Expr-F}
use Rattle.es_grammar.specs.contracts.rows.NodeKind.{the_type}
use Rattle.es_grammar.specs.declared.rows.NodeKind.{NodeKind}
use Rattle.es_site.specs.Parts.{ExprParts}
use Rattle.es_site.specs.declared.site.Attribute.TheVariants.{Unknown}
use Rattle.es_site.specs.Attributes.{attribute_of, says, is_name, plain_part, given_part, or_before, with_part, options_part}
use Rattle.es_site.specs.Sites.{Found, if_some, sites_of}
use Rattle.es_site.specs.Sites.{sites_of_class_member, sites_of_decl, sites_of_expr, sites_of_module_item, sites_of_object_pat_prop, sites_of_pat, sites_of_prop, sites_of_stmt, sites_of_param, sites_of_var_declarator}
use Rattle.es_lowering.specs.Value.{Signature, Typed, Value, given, typed}
use Rattle.es_lowering.specs.Value as v
use Rattle.es_lowering.specs.Texts.{token_of}
use Rattle.es_lowering.specs.Lowering.{same_label}
use Rattle.es_law_sites.proofs.ranges.Cuts.{Opt}
use Rattle.es_law_sites.specs.plain.Part.{Part, absent, nil, more, token, node, part, as_group, group, is_there, found, at, inside, may, each, turns}
use Rattle.es_law_sites.specs.plain.Own.{token_in, src_by, is_word_key, key_says, is_plain, given_in, with_by, options_by, clause_attribute}
use Rattle.es_law_sites.proofs.plain.Given.{given_fine, map_fine}

-- what is there has these sites
abbrev pub Of : {A : Type 0} → (A → Found) → Found → A → Type 0
Of sites s it = sites it ≡ s

abbrev pub key_sites : Bool × Expr → Found
key_sites key = sites_of_expr key.1

abbrev pub head_sites : Option VarDeclKind × Pat → Found
head_sites head = sites_of_pat head.1

abbrev pub variables_sites : VarDeclKind × List VarDeclarator → Found
variables_sites v = flat_map sites_of_var_declarator v.1

abbrev pub signature_sites : Signature → Found
signature_sites signature = flat_map sites_of_param signature.1

abbrev pub str_view : ExprParts → Option Str
str_view (Expr-F.Lit (vLit.Str s)) = Some s
str_view _ = None

-- what is made of an expression adds these sites, and is no literal and no object
pub record PostIs (s : Found) (post : ℕ → Expr → Expr) : Type 0 where
  pub sites : (start : ℕ) (e : Expr) → sites_of_expr (post start e) ≡ sites_of_expr e ++ s
  pub str : (start : ℕ) (e : Expr) → str_view (out-Expr (post start e)) ≡ None
  pub options : (start : ℕ) (e : Expr) → options_part (out-Expr (post start e)) ≡ Unknown
  pub with : (start : ℕ) (e : Expr) → with_part (out-Expr (post start e)) ≡ Unknown

abbrev pub MarkedIs : Found → (Bool → Option TsPart → Range → Pat) → Type 0
MarkedIs s pat = (mark : Bool) (ty : Option TsPart) (r : Range) → sites_of_pat (pat mark ty r) ≡ s

abbrev pub DeclarableIs : Found → (Bool → Range → Decl) → Type 0
DeclarableIs s decl = (declare : Bool) (r : Range) → sites_of_decl (decl declare r) ≡ s

module _ (x : List ℕ) (ts : List Token) where
  -- an expression is what a node of this alternative with these parts is
  pub record ExprIs (label : NodeKind) (q : Part) (s : Found) (e : Expr) : Type 0 where
    pub sites : sites_of_expr e ≡ s
    pub str : str_view (out-Expr e) ≡ src_by x ts label q
    pub options : options_part (out-Expr e) ≡ options_by x ts label q
    pub with : with_part (out-Expr e) ≡ with_by x ts label q

  pub record KeyIs (label : NodeKind) (q : Part) (s : Found) (key : Bool × Expr) : Type 0 where
    pub sites : sites_of_expr key.1 ≡ s
    pub named : not key.0 && is_name (out-Expr key.1) ≡ is_word_key x ts (node label q s)
    pub says : (word : List ℕ) → not key.0 && says word (out-Expr key.1) ≡ key_says x ts word (node label q s)

  -- what a part is as the value of a property
  abbrev pub ValueIs : Part → Expr → Type 0
  ValueIs (node label q s) e = ExprIs label q s e
  ValueIs _ e = ⊥

  abbrev pub GivenIs : Option Expr → Option Part → Type 0
  GivenIs (Some e) (Some w) = ValueIs w e
  GivenIs None None = Unit {0}
  GivenIs _ _ = ⊥

  pub record PropIs (label : NodeKind) (q : Part) (s : Found) (prop : Prop) : Type 0 where
    pub sites : sites_of_prop prop ≡ s
    pub plain : plain_part (out-Prop prop) ≡ is_plain x ts (node label q s)
    pub gives : (word : List ℕ) (last : Option Expr) (before : Option Part) → GivenIs last before
        → GivenIs (or_before (given_part word (out-Prop prop)) last) (given_in x ts word (node label q s) before)

  -- all that a node may be read as
  pub record TypedIs (label : NodeKind) (q : Part) (s : Found) (m : Typed) : Type 0 where
    pub expr : Opt (ExprIs label q s) m.expr
    pub pat : Opt (Of sites_of_pat s) m.pat
    pub stmt : Opt (Of sites_of_stmt s) m.stmt
    pub decl : Opt (Of sites_of_decl s) m.decl
    pub item : Opt (Of sites_of_module_item s) m.item
    pub program : Opt (Of sites_of s) m.program
    pub block : Opt (Of (flat_map sites_of_stmt) s) m.block
    pub variables : Opt (Of variables_sites s) m.variables
    pub declarator : Opt (Of sites_of_var_declarator s) m.declarator
    pub head : Opt (Of head_sites s) m.head
    pub param : Opt (Of sites_of_param s) m.param
    pub params : Opt (Of (flat_map sites_of_param) s) m.params
    pub pat_prop : Opt (Of sites_of_object_pat_prop s) m.pat_prop
    pub prop : Opt (PropIs label q s) m.prop
    pub member : Opt (Of sites_of_class_member s) m.member
    pub key : Opt (KeyIs label q s) m.key
    pub post : Opt (PostIs s) m.post
    pub args : Opt (Of (flat_map sites_of_expr) s) m.args
    pub attributes : Opt (λ (c : ImportAttributes). attribute_of (Some c) ≡ clause_attribute x ts (node label q s))
        m.attributes
    pub marked : Opt (MarkedIs s) m.marked
    pub signature : Opt (Of signature_sites s) m.signature
    pub declarable : Opt (DeclarableIs s) m.declarable

  -- what a part is on both ways
  pub data Is : Value → Part → Type 0 where
    none : Is v.absent absent
    nothing : Is v.nil nil
    both : (a : Value) (b : Part) (p : Value) (q : Part) → Is a b → Is p q → Is (v.more a p) (more b q)
    same : (n : ℕ) → Is (v.token n) (token n)
    made : (from to : ℕ) (m : Typed) (label : NodeKind) (q : Part) (s : Found) → TypedIs label q s m
        → Is (v.node from to m) (node label q s)

  pub part_is : (p : Value) (q : Part) (n : ℕ) → Is p q → Is (v.part p n) (part q n)
  part_is p q n none = none
  part_is p q n nothing = none
  part_is p q zero (both a b r s h i) = h
  part_is p q (suc n) (both a b r s h i) = part_is r s n i
  part_is p q n (same k) = none
  part_is p q n (made from to m label r s h) = none

  pub as_group_is : (p : Value) (q : Part) → Is p q → Is (v.as_group p) (as_group q)
  as_group_is p q none = nothing
  as_group_is p q nothing = nothing
  as_group_is p q (both a b r s h i) = both a b r s h i
  as_group_is p q (same n) = nothing
  as_group_is p q (made from to m label r s h) = nothing

  pub group_is : (p : Value) (q : Part) (n : ℕ) → Is p q → Is (v.group p n) (group q n)
  group_is p q n h = as_group_is (v.part p n) (part q n) (part_is p q n h)

  pub there_is : (p : Value) (q : Part) → Is p q → v.is_there p ≡ is_there q
  there_is p q none = refl
  there_is p q nothing = refl
  there_is p q (both a b r s h i) = refl
  there_is p q (same n) = refl
  there_is p q (made from to m label r s h) = refl

  pub token_is : (p : Value) (q : Part) → Is p q → token_of ts p ≡ token_in x ts q
  token_is p q none = refl
  token_is p q nothing = refl
  token_is p q (both a b r s h i) = refl
  token_is p q (same n) = refl
  token_is p q (made from to m label r s h) = refl

  -- ---- what a node is read as
  pub read : {A : Type 0} (sites : A → Found) (f : Typed → Option A)
      → ((label : NodeKind) (q : Part) (s : Found) (m : Typed) → TypedIs label q s m → Opt (Of sites s) (f m))
      → (p : Value) (q : Part) → Is p q → Opt (Of sites (found q)) (given (typed p) f)
  read sites f one p q none = tt
  read sites f one p q nothing = tt
  read sites f one p q (both a b r s h i) = tt
  read sites f one p q (same n) = tt
  read sites f one p q (made from to m label r s h) = one label r s m h

  pub expr_sites : (label : NodeKind) (q : Part) (s : Found) (o : Option Expr) → Opt (ExprIs label q s) o
      → Opt (Of sites_of_expr s) o
  expr_sites label q s (Some e) h = h.sites
  expr_sites label q s None h = tt

  pub expr_in : (n : ℕ) (p : Value) (q : Part) → Is p q → Opt (Of sites_of_expr (at q n)) (v.expr_at p n)
  expr_in n p q h =
      read sites_of_expr (λ (m : Typed). m.expr) (λ label r s m h. expr_sites label r s m.expr h.expr) (v.part p n)
      (part q n) (part_is p q n h)

  pub stmt_in : (n : ℕ) (p : Value) (q : Part) → Is p q → Opt (Of sites_of_stmt (at q n)) (v.stmt_at p n)
  stmt_in n p q h =
      read sites_of_stmt (λ (m : Typed). m.stmt) (λ label r s m h. h.stmt) (v.part p n) (part q n) (part_is p q n h)

  pub item_in : (n : ℕ) (p : Value) (q : Part) → Is p q → Opt (Of sites_of_module_item (at q n)) (v.item_at p n)
  item_in n p q h =
      read sites_of_module_item (λ (m : Typed). m.item) (λ label r s m h. h.item) (v.part p n) (part q n)
      (part_is p q n h)

  pub decl_in : (n : ℕ) (p : Value) (q : Part) → Is p q → Opt (Of sites_of_decl (at q n)) (v.decl_at p n)
  decl_in n p q h =
      read sites_of_decl (λ (m : Typed). m.decl) (λ label r s m h. h.decl) (v.part p n) (part q n) (part_is p q n h)

  pub pat_in : (n : ℕ) (p : Value) (q : Part) → Is p q → Opt (Of sites_of_pat (at q n)) (v.pat_at p n)
  pat_in n p q h =
      read sites_of_pat (λ (m : Typed). m.pat) (λ label r s m h. h.pat) (v.part p n) (part q n) (part_is p q n h)

  pub args_in : (n : ℕ) (p : Value) (q : Part) → Is p q → Opt (Of (flat_map sites_of_expr) (at q n)) (v.args_at p n)
  args_in n p q h =
      read (flat_map sites_of_expr) (λ (m : Typed). m.args) (λ label r s m h. h.args) (v.part p n) (part q n)
      (part_is p q n h)

  pub post_in : (n : ℕ) (p : Value) (q : Part) → Is p q → Opt (PostIs (at q n)) (v.post_at p n)
  post_in n p q h = go (v.part p n) (part q n) (part_is p q n h)
    where
      go : (p : Value) (q : Part) → Is p q → Opt (PostIs (found q)) (given (typed p) (λ m. m.post))
      go p q none = tt
      go p q nothing = tt
      go p q (both a b r s h i) = tt
      go p q (same n) = tt
      go p q (made from to m label r s h) = h.post

  pub block_in : (n : ℕ) (p : Value) (q : Part) → Is p q → Opt (Of (flat_map sites_of_stmt) (at q n)) (v.block_at p n)
  block_in n p q h =
      read (flat_map sites_of_stmt) (λ (m : Typed). m.block) (λ label r s m h. h.block) (v.part p n) (part q n)
      (part_is p q n h)

  pub variables_in : (n : ℕ) (p : Value) (q : Part) → Is p q → Opt (Of variables_sites (at q n)) (v.variables_at p n)
  variables_in n p q h =
      read variables_sites (λ (m : Typed). m.variables) (λ label r s m h. h.variables) (v.part p n) (part q n)
      (part_is p q n h)

  pub declarator_in : (n : ℕ) (p : Value) (q : Part) → Is p q
      → Opt (Of sites_of_var_declarator (at q n)) (v.declarator_at p n)
  declarator_in n p q h =
      read sites_of_var_declarator (λ (m : Typed). m.declarator) (λ label r s m h. h.declarator) (v.part p n)
      (part q n) (part_is p q n h)

  pub head_in : (n : ℕ) (p : Value) (q : Part) → Is p q → Opt (Of head_sites (at q n)) (v.head_at p n)
  head_in n p q h =
      read head_sites (λ (m : Typed). m.head) (λ label r s m h. h.head) (v.part p n) (part q n) (part_is p q n h)

  pub param_in : (n : ℕ) (p : Value) (q : Part) → Is p q → Opt (Of sites_of_param (at q n)) (v.param_at p n)
  param_in n p q h =
      read sites_of_param (λ (m : Typed). m.param) (λ label r s m h. h.param) (v.part p n) (part q n) (part_is p q n h)

  pub params_in : (n : ℕ) (p : Value) (q : Part) → Is p q
      → Opt (Of (flat_map sites_of_param) (at q n)) (v.params_at p n)
  params_in n p q h =
      read (flat_map sites_of_param) (λ (m : Typed). m.params) (λ label r s m h. h.params) (v.part p n) (part q n)
      (part_is p q n h)

  pub pat_prop_in : (n : ℕ) (p : Value) (q : Part) → Is p q
      → Opt (Of sites_of_object_pat_prop (at q n)) (v.pat_prop_at p n)
  pat_prop_in n p q h =
      read sites_of_object_pat_prop (λ (m : Typed). m.pat_prop) (λ label r s m h. h.pat_prop) (v.part p n) (part q n)
      (part_is p q n h)

  pub member_in : (n : ℕ) (p : Value) (q : Part) → Is p q → Opt (Of sites_of_class_member (at q n)) (v.member_at p n)
  member_in n p q h =
      read sites_of_class_member (λ (m : Typed). m.member) (λ label r s m h. h.member) (v.part p n) (part q n)
      (part_is p q n h)

  pub signature_in : (n : ℕ) (p : Value) (q : Part) → Is p q → Opt (Of signature_sites (at q n)) (v.signature_at p n)
  signature_in n p q h =
      read signature_sites (λ (m : Typed). m.signature) (λ label r s m h. h.signature) (v.part p n) (part q n)
      (part_is p q n h)

  pub prop_sites_in : (n : ℕ) (p : Value) (q : Part) → Is p q → Opt (Of sites_of_prop (at q n)) (v.prop_at p n)
  prop_sites_in n p q h =
      read sites_of_prop (λ (m : Typed). m.prop) (λ label r s m h. go label r s m.prop h.prop) (v.part p n) (part q n)
      (part_is p q n h)
    where
      go : (label : NodeKind) (r : Part) (s : Found) (o : Option Prop) → Opt (PropIs label r s) o
          → Opt (Of sites_of_prop s) o
      go label r s (Some it) h = h.sites
      go label r s None h = tt

  pub key_in : (n : ℕ) (p : Value) (q : Part) → Is p q → Opt (Of key_sites (at q n)) (v.key_at p n)
  key_in n p q h =
      read key_sites (λ (m : Typed). m.key) (λ label r s m h. go label r s m.key h.key) (v.part p n) (part q n)
      (part_is p q n h)
    where
      go : (label : NodeKind) (r : Part) (s : Found) (o : Option (Bool × Expr)) → Opt (KeyIs label r s) o
          → Opt (Of key_sites s) o
      go label r s (Some it) h = h.sites
      go label r s None h = tt

  pub marked_in : (n : ℕ) (p : Value) (q : Part) → Is p q → Opt (MarkedIs (at q n)) (v.marked_at p n)
  marked_in n p q h = go (v.part p n) (part q n) (part_is p q n h)
    where
      go : (p : Value) (q : Part) → Is p q → Opt (MarkedIs (found q)) (given (typed p) (λ m. m.marked))
      go p q none = tt
      go p q nothing = tt
      go p q (both a b r s h i) = tt
      go p q (same n) = tt
      go p q (made from to m label r s h) = h.marked

  pub declarable_in : (n : ℕ) (p : Value) (q : Part) → Is p q → Opt (DeclarableIs (at q n)) (v.declarable_at p n)
  declarable_in n p q h = go (v.part p n) (part q n) (part_is p q n h)
    where
      go : (p : Value) (q : Part) → Is p q → Opt (DeclarableIs (found q)) (given (typed p) (λ m. m.declarable))
      go p q none = tt
      go p q nothing = tt
      go p q (both a b r s h i) = tt
      go p q (same n) = tt
      go p q (made from to m label r s h) = h.declarable

  -- ---- parts that may be absent, and lists
  pub optional_in : {A : Type 0} (sites : A → Found) (one : Value → ℕ → Option A) (of : Part → Found)
      → ((p : Value) (q : Part) → Is p q → Opt (Of sites (of q)) (one p 0))
      → (p : Value) (q : Part) → Is p q → Opt (Of (if_some sites) (inside of q)) (v.optional one p)
  optional_in sites one of each p q none = refl
  optional_in sites one of each p q nothing = refl
  optional_in sites one of each p q (both a b r s h i) =
      map_fine (Of sites (of (more b s))) (Of (if_some sites) (of (more b s))) (one (v.more a r) 0) Some
      (each (v.more a r) (more b s) (both a b r s h i)) (λ it f. f)
  optional_in sites one of each p q (same n) = refl
  optional_in sites one of each p q (made from to m label r s h) = refl

  pub turns_in : {A : Type 0} (sites : A → Found) (one : Value → Option A) (of : Part → Found)
      → ((p : Value) (q : Part) → Is p q → Opt (Of sites (of q)) (one p))
      → (p : Value) (q : Part) → Is p q → Opt (Of (flat_map sites) (each of q)) (v.turns one p)
  turns_in sites one of here p q none = refl
  turns_in sites one of here p q nothing = refl
  turns_in sites one of here p q (both a b r s h i) =
      given_fine (Of sites (of (as_group b))) (Of (flat_map sites) (of (as_group b) ++ each of s)) (one (v.as_group a))
      _
      (here (v.as_group a) (as_group b) (as_group_is a b h)) (λ it f.
      given_fine (Of (flat_map sites) (each of s)) (Of (flat_map sites) (of (as_group b) ++ each of s))
      (v.turns one r) _ (turns_in sites one of here r s i) (λ rest g.
      ap (λ k. k ++ flat_map sites rest) f ∙ ap (λ k. of (as_group b) ++ k) g))
  turns_in sites one of here p q (same n) = refl
  turns_in sites one of here p q (made from to m label r s h) = refl

  pub may_in : {A : Type 0} (sites : A → Found) (one : Value → ℕ → Option A)
      → ((p : Value) (q : Part) → Is p q → Opt (Of sites (at q 0)) (one p 0))
      → (n : ℕ) (p : Value) (q : Part) → Is p q → Opt (Of (if_some sites) (may q n)) (v.optional one (v.group p n))
  may_in sites one each n p q h =
      optional_in sites one (λ g. at g 0) each (v.group p n) (group q n) (group_is p q n h)

  pub list_in : {A : Type 0} (sites : A → Found) (one : Value → ℕ → Option A)
      → ((p : Value) (q : Part) → Is p q → Opt (Of sites (at q 0)) (one p 0))
      → (n : ℕ) (p : Value) (q : Part) → Is p q
      → Opt (Of (flat_map sites) (turns q n 0)) (v.turns (λ turn. one turn 0) (v.group p n))
  list_in sites one each n p q h =
      turns_in sites (λ turn. one turn 0) (λ turn. at turn 0) each (v.group p n) (group q n) (group_is p q n h)

  -- ---- lines of `build`
  pub if_at : {A : Type 0} (P : NodeKind → A → Type 0) (label m : NodeKind) (o e : Option A) → Opt (P m) o
      → Opt (P label) e
      → Opt (P label) (if same_label label m then o else e)
  if_at P label m o e one other = go (same_label label m) refl
    where
      go : (b : Bool) → same_label label m ≡ b → Opt (P label) (if b then o else e)
      go true e1 =
          let Q : NodeKind → Type 0 = λ k. Opt (P k) o in subst Q (sym (same_true the_type tt label m e1)) one
      go false e1 = other
