-- The sites of a program, from its plain tree: those of a node are what its alternative makes of its parts (`own`, a line
-- for each alternative that has any), in the order of the text.
use Rattle.std.specs.Prelude.{ℕ, ◌+◌, Bool, true, false, ◌&&◌, List, [], ◌∷◌, ◌++◌, Option, Some, None, option_map, slice_get, bytes_eq, codes, if◌then◌else◌}
use Rattle.es_token.specs.declared.token.Token.{Token}
use Rattle.es_ast.specs.declared.ts.leaf.Str.{Str}
use Rattle.es_grammar.specs.declared.rows.NodeKind.{NodeKind}
use Rattle.es_grammar.specs.declared.rows.NodeKind.TheVariants as l
use Rattle.es_grammar.specs.declared.cst.tree.Cst.{Cst}
use Rattle.es_grammar.specs.declared.cst.tree.Cst.TheOpen.{Cst-F}
use Rattle.es_grammar.specs.declared.cst.tree.Cst.TheFolds.{fold-Cst}
use Rattle.es_site.specs.declared.site.Attribute.{Attribute}
use Rattle.es_site.specs.declared.site.Attribute.TheVariants.{Absent, Named, Unknown}
use Rattle.es_site.specs.declared.site.DependencyKind.{DependencyKind}
use Rattle.es_site.specs.declared.site.DependencyKind.TheVariants as kind
use Rattle.es_site.specs.Attributes.{named, spells}
use Rattle.es_site.specs.Sites.{Found, site_at}
use Rattle.es_lowering.specs.Texts.{ident_of, str_of, name_of}
use Rattle.es_law_sites.specs.plain.Part.{Part, absent, nil, more, token, node, part, as_group, group, is_there, found, at, inside, may, each, turns, packed, as_target}

module _ (x : List ℕ) (ts : List Token) where
  -- ---- tokens
  abbrev pub token_in : Part → Option Token
  token_in (token n) = slice_get ts n
  token_in _ = None

  abbrev pub str_in : Part → Option Str
  str_in p = option_map (str_of x) (token_in p)

  -- ---- the attribute of a declaration
  abbrev pub spelt : List ℕ → Option Token → Bool
  spelt word (Some t) = spells word (name_of x t)
  spelt word None = false

  -- the value that the last `type` gives, or what was given before
  abbrev pub last_type : Option Str → Part → Option Str
  last_type last (more turn vs) =
      last_type (if spelt (codes "type") (token_in (part (group (as_group turn) 0) 0)) then str_in (part (as_group turn) 1) else last)
      vs
  last_type last _ = last

  abbrev pub clause_attribute : Part → Attribute
  clause_attribute (node l.Attributes p sites) = named (last_type None (group p 0))
  clause_attribute _ = Absent

  abbrev pub attribute_in : Part → Attribute
  attribute_in (more v vs) = clause_attribute v
  attribute_in _ = Absent

  -- ---- the attribute of a call
  -- the string literal that a node is
  abbrev pub src_by : NodeKind → Part → Option Str
  src_by l.Str p = str_in (part p 0)
  src_by _ p = None

  abbrev pub src_in : Part → Option Str
  src_in (node label p sites) = src_by label p
  src_in _ = None

  abbrev pub is_word_key : Part → Bool
  is_word_key (node l.WordKey p sites) = true
  is_word_key (node l.StrKey p sites) = true
  is_word_key _ = false

  abbrev pub same_word : List ℕ → Option Token → Bool
  same_word word (Some t) = bytes_eq (ident_of x t).sym word
  same_word word None = false

  abbrev pub same_str : List ℕ → Option Str → Bool
  same_str word (Some s) = bytes_eq s.value word
  same_str word None = false

  abbrev pub key_says : List ℕ → Part → Bool
  key_says word (node l.WordKey p sites) = same_word word (token_in (part p 0))
  key_says word (node l.StrKey p sites) = same_str word (str_in (part p 0))
  key_says word _ = false

  -- a plain `key: value`, whose key is a word or a string, and what it gives this word
  abbrev pub is_plain : Part → Bool
  is_plain (node l.KeyValue p sites) = is_word_key (part p 0)
  is_plain _ = false

  abbrev pub given_in : List ℕ → Part → Option Part → Option Part
  given_in word (node l.KeyValue p sites) last = if key_says word (part p 0) then Some (part p 1) else last
  given_in word _ last = last

  abbrev pub are_plain : Bool → Part → Bool
  are_plain so (more turn vs) = are_plain (so && is_plain (part (as_group turn) 0)) vs
  are_plain so _ = so

  abbrev pub last_given : List ℕ → Option Part → Part → Option Part
  last_given word last (more turn vs) = last_given word (given_in word (part (as_group turn) 0) last) vs
  last_given word last _ = last

  abbrev pub type_by : Option Str → Attribute
  type_by (Some s) = Named s.value
  type_by None = Unknown

  abbrev pub type_in : Option Part → Attribute
  type_in (Some v) = type_by (src_in v)
  type_in None = Absent

  abbrev pub with_by : NodeKind → Part → Attribute
  with_by l.ObjectLiteral p =
      if are_plain true (group p 0) then type_in (last_given (codes "type") None (group p 0)) else Unknown
  with_by _ p = Unknown

  abbrev pub with_in : Option Part → Attribute
  with_in (Some (node label p sites)) = with_by label p
  with_in (Some _) = Unknown
  with_in None = Absent

  abbrev pub options_by : NodeKind → Part → Attribute
  options_by l.ObjectLiteral p =
      if are_plain true (group p 0) then with_in (last_given (codes "with") None (group p 0)) else Unknown
  options_by _ p = Unknown

  abbrev pub options_of : Part → Attribute
  options_of (node label p sites) = options_by label p
  options_of _ = Unknown

  abbrev pub options_in : Part → Attribute
  options_in (more v vs) = options_of v
  options_in _ = Absent

  -- ---- the sites of a node, by its alternative
  -- a literal that names a module
  abbrev pub naming : DependencyKind → Bool → Attribute → Option Str → Found
  naming kind type_only attribute (Some src) = site_at kind type_only src attribute ∷ []
  naming kind type_only attribute None = []

  abbrev pub declared : DependencyKind → Bool → Part → ℕ → Found
  declared kind type_only p n = naming kind type_only (attribute_in (group p (n + 1))) (str_in (part p n))

  -- a call of `import`, in a phase
  abbrev pub called : DependencyKind → Part → Found
  called kind p = naming kind false (options_in (group p 1)) (src_in (part p 0)) ++ (at p 0 ++ may p 1)

  -- the first that is there
  abbrev pub first_of : Part → Found → Found
  first_of (more v vs) others = at (more v vs) 0
  first_of _ others = others

  -- an expression before the end of a `return`, or none
  abbrev pub returned : Part → Found
  returned (more v nil) = []
  returned v = at v 0

  -- behind the block of a `try`
  abbrev pub handled : (Part → Found) → Part → Found
  handled caught (more body nil) = found body
  handled caught v = caught (group v 0) ++ at v 1 ++ may v 2

  abbrev pub optional_inner : Part → Found
  optional_inner (node label p sites) = sites
  optional_inner v = at (as_group v) 0

  -- a name, or arguments behind those of types
  abbrev pub typed_args : Part → Found
  typed_args (more (token n) vs) = []
  typed_args g = at g 1

  abbrev pub typed_inner : Part → Found
  typed_inner (node label p sites) = sites
  typed_inner v = typed_args (as_group v)

  -- behind the operator: a group of an assertion, or an operand
  abbrev pub operand : Part → Part → Found
  operand g (more v vs) = []
  operand g v = at g 1

  abbrev pub own : NodeKind → Part → Found
  -- modules
  own l.BareImport p = declared kind.Import false p 0
  own l.FromImport p = declared kind.Import (is_there (group p 0)) p 2
  own l.SourceImport p = declared kind.ImportSource false p 1
  own l.DeferImport p = declared kind.ImportDefer false p 1
  own l.RequireImport p = naming kind.ImportEquals (is_there (group p 0)) Unknown (str_in (part p 2))
  own l.ExportedRequireImport p = naming kind.ImportEquals (is_there (group p 0)) Unknown (str_in (part p 2))
  own l.ExportAll p = declared kind.Export (is_there (group p 0)) p 2
  own l.ExportNames p = inside (λ g. declared kind.Export (is_there (group p 0)) g 0) (group p 2)
  own l.ExportDefaultFunction p = at p 0
  own l.ExportDefaultClass p = at p 0
  own l.ExportDefaultExpression p = at p 0
  own l.ExportDeclaration p = at p 0
  own l.ExportDefaultInterface p = at p 0
  own l.ExportAssignment p = at p 0
  own l.Module p = turns p 1 0
  own l.Script p = turns p 1 0
  -- expressions
  own l.ImportCall p = called kind.Dynamic p
  own l.SourceCall p = called kind.DynamicSource p
  own l.DeferCall p = called kind.DynamicDefer p
  own l.TemplateParts p = at p 1 ++ turns p 2 1
  own l.Parenthesized p = at p 0
  own l.ArrayLiteral p = each (λ turn. may turn 0) (group p 0)
  own l.ObjectLiteral p = turns p 0 0
  own l.Spread p = at p 0
  own l.Function p = at p 2 ++ at p 3
  own l.AsyncFunction p = at p 2 ++ at p 3
  own l.Class p = may p 1 ++ turns p 2 0
  own l.New p = at p 0 ++ may p 1
  own l.Chain p = at p 0 ++ (at p 1 ++ turns p 2 0)
  own l.UpdatePrefix p = at p 1
  own l.UpdatePostfix p = at p 0
  own l.UnaryExpression p = at p 1
  own l.AwaitExpression p = at p 0
  own l.Binary p = at p 0 ++ at p 2
  own l.PrivateIn p = at p 1
  own l.Conditional p = at p 0 ++ at p 1 ++ at p 2
  own l.Assignment p = at p 0 ++ at p 2
  own l.PatternAssignment p = at p 0 ++ at p 1
  own l.Yield p = inside (λ g. at g 1) (group p 0)
  own l.NameArrow p = at (group p 1) 0
  own l.AsyncNameArrow p = at (group p 1) 0
  own l.ParenthesizedArrow p = at p 0 ++ at (group p 1) 0
  own l.AsyncParenthesizedArrow p = at p 0 ++ at (group p 1) 0
  own l.Sequence p = at p 0 ++ (at p 1 ++ turns p 2 0)
  own l.Arguments p = turns p 0 1
  own l.IndexPost p = at p 0
  own l.CallPost p = at p 0
  own l.TemplatePost p = at p 0
  own l.OptionalPost p = optional_inner (part (group p 0) 0)
  own l.TypedFunction p = at p 2 ++ at (group p 3) 0
  own l.TypedAsyncFunction p = at p 2 ++ at (group p 3) 0
  own l.TypedClass p = may p 2 ++ turns p 4 0
  own l.AbstractClass p = may p 2 ++ turns p 4 0
  own l.TypedNew p = at p 0 ++ may p 2
  own l.TypeAssertion p = at p 1
  own l.TypedBinary p = at p 0 ++ operand (group p 1) (part (group p 1) 1)
  own l.TypedParenthesizedArrow p = at p 1 ++ at (group p 3) 0
  own l.TypedAsyncParenthesizedArrow p = at p 1 ++ at (group p 3) 0
  own l.TypedCallPost p = at p 1
  own l.TypedTemplatePost p = at p 1
  own l.TypedOptionalPost p = typed_inner (part (group p 0) 0)
  -- properties, keys and members
  own l.ComputedKey p = at p 0
  own l.SpreadProperty p = at p 0
  own l.KeyValue p = at p 0 ++ at p 1
  own l.MethodProperty p = at p 0 ++ (at p 1 ++ at p 2)
  own l.GeneratorProperty p = at p 0 ++ (at p 1 ++ at p 2)
  own l.AsyncProperty p = at p 1 ++ (at p 2 ++ at p 3)
  own l.AccessorProperty p = at p 1 ++ (at p 2 ++ at p 3)
  own l.TypedMethodProperty p = at (group p 0) 0 ++ (at (group p 0) 1 ++ at p 1)
  own l.TypedGeneratorProperty p = at (group p 0) 0 ++ (at (group p 0) 1 ++ at p 1)
  own l.TypedAsyncProperty p = at (group p 1) 0 ++ (at (group p 1) 1 ++ at p 2)
  own l.TypedAccessorProperty p = at (group p 1) 0 ++ (at (group p 1) 1 ++ at p 2)
  own l.StaticBlock p = at p 0
  own l.MethodMember p = at p 1 ++ (at p 2 ++ at p 3)
  own l.GeneratorMember p = at p 1 ++ (at p 2 ++ at p 3)
  own l.AsyncMember p = at p 2 ++ (at p 3 ++ at p 4)
  own l.AccessorMember p = at p 2 ++ (at p 3 ++ at p 4)
  own l.FieldMember p = at p 1 ++ may p 2
  own l.AccessorField p = at p 1 ++ may p 2
  own l.TypedMethodMember p = at (group p 1) 0 ++ (at (group p 1) 2 ++ at (group p 2) 0)
  own l.TypedGeneratorMember p = at (group p 1) 0 ++ (at (group p 1) 2 ++ at (group p 2) 0)
  own l.TypedAsyncMember p = at (group p 2) 0 ++ (at (group p 2) 2 ++ at (group p 3) 0)
  own l.TypedAccessorMember p = at (group p 2) 0 ++ (at (group p 2) 2 ++ at (group p 3) 0)
  own l.TypedFieldMember p = at p 1 ++ may p 4
  own l.TypedAccessorField p = at p 1 ++ may p 4
  -- patterns and parameters
  own l.ArrayPattern p = each (λ turn. may turn 0) (group p 0)
  own l.ObjectPattern p = turns p 0 0
  own l.RestPattern p = at p 0
  own l.DefaultPattern p = at p 0 ++ at p 1
  own l.RestProperty p = at p 0
  own l.KeyPattern p = at p 0 ++ (at p 1 ++ may p 2)
  own l.NameProperty p = may p 1
  own l.DefaultParameter p = at p 0 ++ at p 1
  own l.MarkedParameter p = at p 0 ++ may p 3
  own l.PropertyParameter p = at p 1 ++ may p 4
  own l.ThisParameter p = may p 3
  own l.Parameters p = turns p 0 0 ++ may p 1
  own l.TypedParameters p = turns p 0 0 ++ may p 1
  own l.Signature p = at p 0
  own l.TypedSignature p = at p 1
  -- statements and declarations
  own l.Block p = turns p 0 0
  own l.ExpressionStatement p = at p 0
  own l.LabelledStatement p = at p 1
  own l.IfStatement p = at p 0 ++ at p 1 ++ may p 2
  own l.ForStatement p =
      first_of (group p 0) (first_of (group p 1) (may p 2)) ++ may p 3 ++ may p 4 ++ at p 5
  own l.ForEachStatement p = at p 0 ++ at (group p 1) 1 ++ at p 2
  own l.ForAwaitStatement p = at p 0 ++ at p 1 ++ at p 2
  own l.WhileStatement p = at p 0 ++ at p 1
  own l.DoStatement p = at p 0 ++ at p 1
  own l.ReturnStatement p = returned (group p 0)
  own l.ThrowStatement p = at p 0
  own l.SwitchStatement p = at p 0 ++ each (λ turn. may turn 0 ++ turns turn 1 0) (group p 1)
  own l.TryStatement p = at p 0 ++ handled (inside (λ g. at g 0)) (group p 1)
  own l.TypedTryStatement p = at p 0 ++ handled (inside (λ g. at g 0)) (group p 1)
  own l.WithStatement p = at p 0 ++ at p 1
  own l.VariableDeclaration p = at p 0
  own l.UsingDeclaration p = at p 0
  own l.Variables p = at p 1 ++ turns p 2 0
  own l.Using p = at p 1 ++ turns p 2 0
  own l.Declarator p = at p 0 ++ at p 1
  own l.TypedDeclarator p = at p 0 ++ may p 3
  own l.VariableHead p = at p 1
  own l.TypedVariableHead p = at p 1
  own l.Declared p = at p 0
  own l.DeclaredVariables p = at p 0
  own l.EnumDeclaration p = each (λ turn. at turn 0 ++ may turn 1) (group p 2)
  own l.NamespaceDeclaration p = turns p 2 0
  own l.ModuleDeclaration p = turns (group p 1) 0 0
  own l.GlobalDeclaration p = turns p 0 0
  -- names, literals, words and types have none
  own _ p = []

  -- ---- the whole
  abbrev pub made : NodeKind → Part → Part
  made label p = node label p (own label p)

  abbrev pub part_step : Cst-F Part → Part
  part_step (Cst-F.Leaf at) = token at
  part_step (Cst-F.Node label from to parts) = made label (packed parts)
  part_step (Cst-F.Role label tree) = as_target tree
  part_step (Cst-F.Parts parts) = packed parts

  unfoldable pub part_of : Cst → Part
  part_of = fold-Cst Part part_step

  -- the sites of a program, in the order of the text
  abbrev pub plain_sites : Cst → Found
  plain_sites tree = found (part_of tree)
