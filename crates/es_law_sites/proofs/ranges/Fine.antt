-- What a part of a plain tree becomes is fine where the sites of all that it may be read as cut their literals.
use Rattle.std.specs.Prelude.{Bool, true, false, List, [], ◌∷◌, ◌++◌, Option, Some, None, option_map, if◌then◌else◌}
use Rattle.std.proofs.Common.{◌≡◌, ℕ, zero, suc, refl}
use Rattle.es_ast.specs.declared.ts.ts.TsPart.{TsPart}
use Rattle.base.specs.declared.range.Range.{Range}
use Rattle.es_ast.specs.declared.leaf.VarDeclKind.{VarDeclKind}
use Rattle.es_ast.specs.declared.ast.Program.{Program}
use Rattle.es_ast.specs.declared.ast.Expr.{Expr}
use Rattle.es_ast.specs.declared.ast.Decl.{Decl}
use Rattle.es_ast.specs.declared.ast.Pat.{Pat}
use Rattle.es_ast.specs.declared.ast.VarDeclarator.{VarDeclarator}
use Rattle.es_site.specs.Sites.{sites_of}
use Rattle.es_lowering.specs.Value.{Signature, Typed, Value, absent, nil, more, token, node, given, part, typed, as_group, group, optional, option_list, turns, expr_at, pat_at, stmt_at, decl_at, item_at, block_at, variables_at, declarator_at, head_at, param_at, params_at, pat_prop_at, prop_at, member_at, key_at, post_at, args_at, marked_at, signature_at, declarable_at}
use Rattle.es_law_sites.proofs.ranges.Cuts.{Each, Opt, Cut, ExprCuts, MemberCuts, DeclCuts, ItemCuts, PatPropCuts, PatCuts, PropCuts, StmtCuts, ParamCuts, DeclaratorCuts}

abbrev pub ProgramCuts : List ℕ → Program → Type 0
ProgramCuts x it = Cut x (sites_of it)

abbrev pub KeyCuts : List ℕ → Bool × Expr → Type 0
KeyCuts x key = ExprCuts x key.1

abbrev pub HeadCuts : List ℕ → Option VarDeclKind × Pat → Type 0
HeadCuts x head = PatCuts x head.1

abbrev pub VariablesCut : List ℕ → VarDeclKind × List VarDeclarator → Type 0
VariablesCut x v = Each (DeclaratorCuts x) v.1

-- what is made of an expression that is fine
abbrev pub PostCuts : List ℕ → (ℕ → Expr → Expr) → Type 0
PostCuts x post = (start : ℕ) (e : Expr) → ExprCuts x e → ExprCuts x (post start e)

-- what is made of a mark, a type and a range
abbrev pub MarkedCuts : List ℕ → (Bool → Option TsPart → Range → Pat) → Type 0
MarkedCuts x pat = (mark : Bool) (ty : Option TsPart) (r : Range) → PatCuts x (pat mark ty r)

abbrev pub SignatureCuts : List ℕ → Signature → Type 0
SignatureCuts x signature = Each (ParamCuts x) signature.1

-- behind `declare` or not, over a range
abbrev pub DeclarableCuts : List ℕ → (Bool → Range → Decl) → Type 0
DeclarableCuts x decl = (declare : Bool) (r : Range) → DeclCuts x (decl declare r)

-- all that a node may be read as
pub record TypedFine (x : List ℕ) (m : Typed) : Type 0 where
  pub expr : Opt (ExprCuts x) m.expr
  pub pat : Opt (PatCuts x) m.pat
  pub stmt : Opt (StmtCuts x) m.stmt
  pub decl : Opt (DeclCuts x) m.decl
  pub item : Opt (ItemCuts x) m.item
  pub program : Opt (ProgramCuts x) m.program
  pub block : Opt (Each (StmtCuts x)) m.block
  pub variables : Opt (VariablesCut x) m.variables
  pub declarator : Opt (DeclaratorCuts x) m.declarator
  pub head : Opt (HeadCuts x) m.head
  pub param : Opt (ParamCuts x) m.param
  pub params : Opt (Each (ParamCuts x)) m.params
  pub pat_prop : Opt (PatPropCuts x) m.pat_prop
  pub prop : Opt (PropCuts x) m.prop
  pub member : Opt (MemberCuts x) m.member
  pub key : Opt (KeyCuts x) m.key
  pub post : Opt (PostCuts x) m.post
  pub args : Opt (Each (ExprCuts x)) m.args
  pub marked : Opt (MarkedCuts x) m.marked
  pub signature : Opt (SignatureCuts x) m.signature
  pub declarable : Opt (DeclarableCuts x) m.declarable

abbrev pub Fine : List ℕ → Value → Type 0
Fine x absent = Unit {0}
Fine x nil = Unit {0}
Fine x (more v vs) = Fine x v × Fine x vs
Fine x (token n) = Unit {0}
Fine x (node from to m) = TypedFine x m

-- ---- what is there
pub given_fine : {A B : Type 0} (P : A → Type 0) (Q : B → Type 0) (o : Option A) (f : A → Option B) → Opt P o
    → ((a : A) → P a → Opt Q (f a)) → Opt Q (given o f)
given_fine P Q (Some a) f here next = next a here
given_fine P Q None f here next = tt

pub given_any : {A B : Type 0} (Q : B → Type 0) (o : Option A) (f : A → Option B) → ((a : A) → Opt Q (f a))
    → Opt Q (given o f)
given_any Q (Some a) f next = next a
given_any Q None f next = tt

pub map_fine : {A B : Type 0} (P : A → Type 0) (Q : B → Type 0) (o : Option A) (f : A → B) → Opt P o
    → ((a : A) → P a → Q (f a)) → Opt Q (option_map f o)
map_fine P Q (Some a) f here next = next a here
map_fine P Q None f here next = tt

pub map_any : {A B : Type 0} (Q : B → Type 0) (o : Option A) (f : A → B) → ((a : A) → Q (f a)) → Opt Q (option_map f o)
map_any Q (Some a) f next = next a
map_any Q None f next = tt

pub if_fine : {A : Type 0} (P : A → Type 0) (b : Bool) (o e : Option A) → (b ≡ true → Opt P o) → Opt P e
    → Opt P (if b then o else e)
if_fine P true o e there other = there refl
if_fine P false o e there other = other

pub each_both : {A : Type 0} (P : A → Type 0) (items bs : List A) → Each P items → Each P bs → Each P (items ++ bs)
each_both P [] bs f g = g
each_both P (a ∷ items) bs f g = (f.0, each_both P items bs f.1 g)

pub listed_fine : {A : Type 0} (P : A → Type 0) (o : Option A) → Opt P o → Each P (option_list o)
listed_fine P (Some a) f = (f, tt)
listed_fine P None f = tt

module _ (x : List ℕ) where
  -- ---- parts
  pub part_fine : (v : Value) (n : ℕ) → Fine x v → Fine x (part v n)
  part_fine (more v vs) zero fine = fine.0
  part_fine (more v vs) (suc n) fine = part_fine vs n fine.1
  part_fine absent n fine = tt
  part_fine nil n fine = tt
  part_fine (token k) n fine = tt
  part_fine (node from to m) n fine = tt

  pub as_group_fine : (v : Value) → Fine x v → Fine x (as_group v)
  as_group_fine (more v vs) fine = fine
  as_group_fine absent fine = tt
  as_group_fine nil fine = tt
  as_group_fine (token k) fine = tt
  as_group_fine (node from to m) fine = tt

  pub group_fine : (v : Value) (n : ℕ) → Fine x v → Fine x (group v n)
  group_fine v n fine = as_group_fine (part v n) (part_fine v n fine)

  -- what a node is read as
  pub read_fine : {A : Type 0} (P : A → Type 0) (f : Typed → Option A) → ((m : Typed) → TypedFine x m → Opt P (f m))
      → (v : Value) → Fine x v → Opt P (given (typed v) f)
  read_fine P f each (node from to m) fine = each m fine
  read_fine P f each absent fine = tt
  read_fine P f each nil fine = tt
  read_fine P f each (more v vs) fine = tt
  read_fine P f each (token n) fine = tt

  pub at_fine : {A : Type 0} (P : A → Type 0) (f : Typed → Option A) → ((m : Typed) → TypedFine x m → Opt P (f m))
      → (v : Value) (n : ℕ) → Fine x v → Opt P (given (typed (part v n)) f)
  at_fine P f each v n fine = read_fine P f each (part v n) (part_fine v n fine)

  pub optional_fine : {A : Type 0} (P : A → Type 0) (one : Value → ℕ → Option A)
      → ((v : Value) → Fine x v → Opt P (one v 0)) → (v : Value) → Fine x v → Opt (Opt P) (optional one v)
  optional_fine P one each (more v vs) fine =
      map_fine P (Opt P) (one (more v vs) 0) Some (each (more v vs) fine) (λ a f. f)
  optional_fine P one each absent fine = tt
  optional_fine P one each nil fine = tt
  optional_fine P one each (token n) fine = tt
  optional_fine P one each (node from to m) fine = tt

  pub turns_fine : {A : Type 0} (P : A → Type 0) (one : Value → Option A) → ((v : Value) → Fine x v → Opt P (one v))
      → (v : Value) → Fine x v → Opt (Each P) (turns one v)
  turns_fine P one each (more v vs) fine =
      given_fine P (Each P) (one (as_group v)) _ (each (as_group v) (as_group_fine v fine.0)) (λ a f.
      given_fine (Each P) (Each P) (turns one vs) _ (turns_fine P one each vs fine.1) (λ rest g. (f, g)))
  turns_fine P one each absent fine = tt
  turns_fine P one each nil fine = tt
  turns_fine P one each (token n) fine = tt
  turns_fine P one each (node from to m) fine = tt

  -- ---- what stands at a place among the parts
  pub expr_fine : (p : Value) (n : ℕ) → Fine x p → Opt (ExprCuts x) (expr_at p n)
  expr_fine p n fine = at_fine (ExprCuts x) (λ (m : Typed). m.expr) (λ m f. f.expr) p n fine

  pub pat_fine : (p : Value) (n : ℕ) → Fine x p → Opt (PatCuts x) (pat_at p n)
  pat_fine p n fine = at_fine (PatCuts x) (λ (m : Typed). m.pat) (λ m f. f.pat) p n fine

  pub stmt_fine : (p : Value) (n : ℕ) → Fine x p → Opt (StmtCuts x) (stmt_at p n)
  stmt_fine p n fine = at_fine (StmtCuts x) (λ (m : Typed). m.stmt) (λ m f. f.stmt) p n fine

  pub decl_fine : (p : Value) (n : ℕ) → Fine x p → Opt (DeclCuts x) (decl_at p n)
  decl_fine p n fine = at_fine (DeclCuts x) (λ (m : Typed). m.decl) (λ m f. f.decl) p n fine

  pub item_fine : (p : Value) (n : ℕ) → Fine x p → Opt (ItemCuts x) (item_at p n)
  item_fine p n fine = at_fine (ItemCuts x) (λ (m : Typed). m.item) (λ m f. f.item) p n fine

  pub block_fine : (p : Value) (n : ℕ) → Fine x p → Opt (Each (StmtCuts x)) (block_at p n)
  block_fine p n fine = at_fine (Each (StmtCuts x)) (λ (m : Typed). m.block) (λ m f. f.block) p n fine

  pub variables_fine : (p : Value) (n : ℕ) → Fine x p → Opt (VariablesCut x) (variables_at p n)
  variables_fine p n fine = at_fine (VariablesCut x) (λ (m : Typed). m.variables) (λ m f. f.variables) p n fine

  pub declarator_fine : (p : Value) (n : ℕ) → Fine x p → Opt (DeclaratorCuts x) (declarator_at p n)
  declarator_fine p n fine = at_fine (DeclaratorCuts x) (λ (m : Typed). m.declarator) (λ m f. f.declarator) p n fine

  pub head_fine : (p : Value) (n : ℕ) → Fine x p → Opt (HeadCuts x) (head_at p n)
  head_fine p n fine = at_fine (HeadCuts x) (λ (m : Typed). m.head) (λ m f. f.head) p n fine

  pub param_fine : (p : Value) (n : ℕ) → Fine x p → Opt (ParamCuts x) (param_at p n)
  param_fine p n fine = at_fine (ParamCuts x) (λ (m : Typed). m.param) (λ m f. f.param) p n fine

  pub params_fine : (p : Value) (n : ℕ) → Fine x p → Opt (Each (ParamCuts x)) (params_at p n)
  params_fine p n fine = at_fine (Each (ParamCuts x)) (λ (m : Typed). m.params) (λ m f. f.params) p n fine

  pub pat_prop_fine : (p : Value) (n : ℕ) → Fine x p → Opt (PatPropCuts x) (pat_prop_at p n)
  pat_prop_fine p n fine = at_fine (PatPropCuts x) (λ (m : Typed). m.pat_prop) (λ m f. f.pat_prop) p n fine

  pub prop_fine : (p : Value) (n : ℕ) → Fine x p → Opt (PropCuts x) (prop_at p n)
  prop_fine p n fine = at_fine (PropCuts x) (λ (m : Typed). m.prop) (λ m f. f.prop) p n fine

  pub member_fine : (p : Value) (n : ℕ) → Fine x p → Opt (MemberCuts x) (member_at p n)
  member_fine p n fine = at_fine (MemberCuts x) (λ (m : Typed). m.member) (λ m f. f.member) p n fine

  pub key_fine : (p : Value) (n : ℕ) → Fine x p → Opt (KeyCuts x) (key_at p n)
  key_fine p n fine = at_fine (KeyCuts x) (λ (m : Typed). m.key) (λ m f. f.key) p n fine

  pub post_fine : (p : Value) (n : ℕ) → Fine x p → Opt (PostCuts x) (post_at p n)
  post_fine p n fine = at_fine (PostCuts x) (λ (m : Typed). m.post) (λ m f. f.post) p n fine

  pub args_fine : (p : Value) (n : ℕ) → Fine x p → Opt (Each (ExprCuts x)) (args_at p n)
  args_fine p n fine = at_fine (Each (ExprCuts x)) (λ (m : Typed). m.args) (λ m f. f.args) p n fine

  pub marked_fine : (p : Value) (n : ℕ) → Fine x p → Opt (MarkedCuts x) (marked_at p n)
  marked_fine p n fine = at_fine (MarkedCuts x) (λ (m : Typed). m.marked) (λ m f. f.marked) p n fine

  pub signature_fine : (p : Value) (n : ℕ) → Fine x p → Opt (SignatureCuts x) (signature_at p n)
  signature_fine p n fine = at_fine (SignatureCuts x) (λ (m : Typed). m.signature) (λ m f. f.signature) p n fine

  pub declarable_fine : (p : Value) (n : ℕ) → Fine x p → Opt (DeclarableCuts x) (declarable_at p n)
  declarable_fine p n fine = at_fine (DeclarableCuts x) (λ (m : Typed). m.declarable) (λ m f. f.declarable) p n fine
