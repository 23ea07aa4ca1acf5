-- Which parts of a node, of a group or of a list may have sites in them, and the sites of parts that are taken so.
use Rattle.std.specs.Prelude.{ℕ, Bool, true, false, List, [], ◌∷◌, ◌++◌, if◌then◌else◌}
use Rattle.es_token.specs.declared.token.Token.{Token}
use Rattle.es_grammar.specs.declared.rows.NodeKind.{NodeKind}
use Rattle.es_grammar.specs.declared.rows.NodeKind.TheVariants as l
use Rattle.es_syntax.specs.declared.entry.Lean.TheVariants as vLean
use Rattle.es_site.specs.declared.site.Attribute.TheVariants.{Unknown}
use Rattle.es_site.specs.declared.site.DependencyKind.{DependencyKind}
use Rattle.es_site.specs.declared.site.DependencyKind.TheVariants as kind
use Rattle.es_site.specs.Sites.{Found}
use Rattle.es_law_sites.specs.plain.Part.{Part, nil, more, token, part, group, is_there, found}
use Rattle.es_law_sites.specs.plain.Own.{attribute_in, str_in, options_in, src_in, naming}
use Rattle.es_tree_sites.specs.declared.plan.Way.{Way}
use Rattle.es_tree_sites.specs.declared.plan.Way.TheVariants.{Skip, Tree, In, Either}
use Rattle.es_tree_sites.specs.declared.plan.Group.{Group}
use Rattle.es_tree_sites.specs.declared.plan.Group.TheVariants.{Trees, First, Second, Both, Ends, Firsts, Seconds, Holes, Hole, Cases, Case, Members, Member, Body, Optional, TypedOptional, Arguments, Returned, Handlers, Operands, Operand}

-- ---- which parts
-- exactly one part
unfoldable pub is_single : Part → Bool
is_single (more v nil) = true
is_single _ = false

unfoldable pub is_token : Part → Bool
is_token (token n) = true
is_token _ = false

-- behind `?.`: a name, or arguments behind those of types
abbrev pub arguments_ways : Bool → List Way
arguments_ways true = []
arguments_ways false = Skip ∷ Tree ∷ []

-- a group of one part is the end of a `return` alone
abbrev pub returned_ways : Bool → List Way
returned_ways true = []
returned_ways false = Tree ∷ []

-- behind the block of a `try`: `finally` alone, or a parameter, a block and what may follow
abbrev pub handlers_ways : Bool → List Way
handlers_ways true = Tree ∷ []
handlers_ways false = In First ∷ Tree ∷ In First ∷ []

-- nodes that lean left have a first operand and a turn at least
abbrev pub operands_ways : Bool → List Way
operands_ways true = Skip ∷ []
operands_ways false = Tree ∷ []

-- the first of the three forms of a `for`'s start that is there, then a test, a step and a body
abbrev pub for_ways : Bool → Bool → List Way
for_ways true second = In First ∷ Skip ∷ Skip ∷ In First ∷ In First ∷ Tree ∷ []
for_ways false true = Skip ∷ In First ∷ Skip ∷ In First ∷ In First ∷ Tree ∷ []
for_ways false false = Skip ∷ Skip ∷ In First ∷ In First ∷ In First ∷ Tree ∷ []

-- the first parts of a group or of a list, and all behind these
unfoldable pub ways : Group → Part → List Way
ways First p = Tree ∷ []
ways Second p = Skip ∷ Tree ∷ []
ways Both p = Tree ∷ Tree ∷ []
ways Ends p = Tree ∷ Skip ∷ Tree ∷ []
ways Hole p = In First ∷ []
ways Case p = In First ∷ In Firsts ∷ []
ways Member p = Tree ∷ In First ∷ []
ways Body p = In Firsts ∷ []
ways Optional p = Either First ∷ []
ways TypedOptional p = Either Arguments ∷ []
ways Arguments p = arguments_ways (is_token (part p 0))
ways Returned p = returned_ways (is_single p)
ways Handlers p = handlers_ways (is_single p)
ways (Operands lean) p = operands_ways (is_single p)
ways Operand p = In Second ∷ []
ways _ p = []

abbrev pub rest : Group → Way
rest Trees = Tree
rest Firsts = In First
rest Seconds = In Second
rest Holes = In Hole
rest Cases = In Case
rest Members = In Member
rest (Operands vLean.Binary) = In Second
rest (Operands vLean.TypedBinary) = In Operand
rest _ = Skip

-- the first parts of a node, by its alternative; none behind these
unfoldable pub plan : NodeKind → Part → List Way
plan l.ExportDefaultFunction p = Tree ∷ []
plan l.ExportDefaultClass p = Tree ∷ []
plan l.ExportDefaultExpression p = Tree ∷ []
plan l.ExportDeclaration p = Tree ∷ []
plan l.ExportDefaultInterface p = Tree ∷ []
plan l.ExportAssignment p = Tree ∷ []
plan l.Parenthesized p = Tree ∷ []
plan l.Spread p = Tree ∷ []
plan l.UpdatePostfix p = Tree ∷ []
plan l.AwaitExpression p = Tree ∷ []
plan l.IndexPost p = Tree ∷ []
plan l.CallPost p = Tree ∷ []
plan l.TemplatePost p = Tree ∷ []
plan l.ComputedKey p = Tree ∷ []
plan l.SpreadProperty p = Tree ∷ []
plan l.StaticBlock p = Tree ∷ []
plan l.RestPattern p = Tree ∷ []
plan l.RestProperty p = Tree ∷ []
plan l.Signature p = Tree ∷ []
plan l.ExpressionStatement p = Tree ∷ []
plan l.ThrowStatement p = Tree ∷ []
plan l.VariableDeclaration p = Tree ∷ []
plan l.UsingDeclaration p = Tree ∷ []
plan l.Declared p = Tree ∷ []
plan l.DeclaredVariables p = Tree ∷ []
plan l.Module p = Skip ∷ In Firsts ∷ []
plan l.Script p = Skip ∷ In Firsts ∷ []
plan l.TemplateParts p = Skip ∷ Tree ∷ In Seconds ∷ []
plan l.ArrayLiteral p = In Holes ∷ []
plan l.ArrayPattern p = In Holes ∷ []
plan l.ObjectLiteral p = In Firsts ∷ []
plan l.ObjectPattern p = In Firsts ∷ []
plan l.Block p = In Firsts ∷ []
plan l.GlobalDeclaration p = In Firsts ∷ []
plan l.Function p = Skip ∷ Skip ∷ Tree ∷ Tree ∷ []
plan l.AsyncFunction p = Skip ∷ Skip ∷ Tree ∷ Tree ∷ []
plan l.Class p = Skip ∷ In First ∷ In Firsts ∷ []
plan l.New p = Tree ∷ In First ∷ []
plan l.ParenthesizedArrow p = Tree ∷ In First ∷ []
plan l.AsyncParenthesizedArrow p = Tree ∷ In First ∷ []
plan l.ImportCall p = Tree ∷ In First ∷ []
plan l.SourceCall p = Tree ∷ In First ∷ []
plan l.DeferCall p = Tree ∷ In First ∷ []
plan l.Chain p = Tree ∷ Tree ∷ In Firsts ∷ []
plan l.Sequence p = Tree ∷ Tree ∷ In Firsts ∷ []
plan l.UpdatePrefix p = Skip ∷ Tree ∷ []
plan l.UnaryExpression p = Skip ∷ Tree ∷ []
plan l.TypeAssertion p = Skip ∷ Tree ∷ []
plan l.PrivateIn p = Skip ∷ Tree ∷ []
plan l.TypedCallPost p = Skip ∷ Tree ∷ []
plan l.TypedTemplatePost p = Skip ∷ Tree ∷ []
plan l.TypedSignature p = Skip ∷ Tree ∷ []
plan l.LabelledStatement p = Skip ∷ Tree ∷ []
plan l.VariableHead p = Skip ∷ Tree ∷ []
plan l.TypedVariableHead p = Skip ∷ Tree ∷ []
plan l.Binary p = Tree ∷ Skip ∷ Tree ∷ []
plan l.Assignment p = Tree ∷ Skip ∷ Tree ∷ []
plan l.Conditional p = Tree ∷ Tree ∷ Tree ∷ []
plan l.MethodProperty p = Tree ∷ Tree ∷ Tree ∷ []
plan l.GeneratorProperty p = Tree ∷ Tree ∷ Tree ∷ []
plan l.ForAwaitStatement p = Tree ∷ Tree ∷ Tree ∷ []
plan l.PatternAssignment p = Tree ∷ Tree ∷ []
plan l.KeyValue p = Tree ∷ Tree ∷ []
plan l.DefaultPattern p = Tree ∷ Tree ∷ []
plan l.DefaultParameter p = Tree ∷ Tree ∷ []
plan l.WhileStatement p = Tree ∷ Tree ∷ []
plan l.DoStatement p = Tree ∷ Tree ∷ []
plan l.WithStatement p = Tree ∷ Tree ∷ []
plan l.Declarator p = Tree ∷ Tree ∷ []
plan l.NameArrow p = Skip ∷ In First ∷ []
plan l.AsyncNameArrow p = Skip ∷ In First ∷ []
plan l.NameProperty p = Skip ∷ In First ∷ []
plan l.Arguments p = In Seconds ∷ []
plan l.TypedFunction p = Skip ∷ Skip ∷ Tree ∷ In First ∷ []
plan l.TypedAsyncFunction p = Skip ∷ Skip ∷ Tree ∷ In First ∷ []
plan l.TypedClass p = Skip ∷ Skip ∷ In First ∷ Skip ∷ In Firsts ∷ []
plan l.AbstractClass p = Skip ∷ Skip ∷ In First ∷ Skip ∷ In Firsts ∷ []
plan l.TypedNew p = Tree ∷ Skip ∷ In First ∷ []
plan l.TypedParenthesizedArrow p = Skip ∷ Tree ∷ Skip ∷ In First ∷ []
plan l.TypedAsyncParenthesizedArrow p = Skip ∷ Tree ∷ Skip ∷ In First ∷ []
plan l.AsyncProperty p = Skip ∷ Tree ∷ Tree ∷ Tree ∷ []
plan l.AccessorProperty p = Skip ∷ Tree ∷ Tree ∷ Tree ∷ []
plan l.MethodMember p = Skip ∷ Tree ∷ Tree ∷ Tree ∷ []
plan l.GeneratorMember p = Skip ∷ Tree ∷ Tree ∷ Tree ∷ []
plan l.TypedMethodProperty p = In Both ∷ Tree ∷ []
plan l.TypedGeneratorProperty p = In Both ∷ Tree ∷ []
plan l.TypedAsyncProperty p = Skip ∷ In Both ∷ Tree ∷ []
plan l.TypedAccessorProperty p = Skip ∷ In Both ∷ Tree ∷ []
plan l.AsyncMember p = Skip ∷ Skip ∷ Tree ∷ Tree ∷ Tree ∷ []
plan l.AccessorMember p = Skip ∷ Skip ∷ Tree ∷ Tree ∷ Tree ∷ []
plan l.FieldMember p = Skip ∷ Tree ∷ In First ∷ []
plan l.AccessorField p = Skip ∷ Tree ∷ In First ∷ []
plan l.TypedMethodMember p = Skip ∷ In Ends ∷ In First ∷ []
plan l.TypedGeneratorMember p = Skip ∷ In Ends ∷ In First ∷ []
plan l.TypedAsyncMember p = Skip ∷ Skip ∷ In Ends ∷ In First ∷ []
plan l.TypedAccessorMember p = Skip ∷ Skip ∷ In Ends ∷ In First ∷ []
plan l.TypedFieldMember p = Skip ∷ Tree ∷ Skip ∷ Skip ∷ In First ∷ []
plan l.TypedAccessorField p = Skip ∷ Tree ∷ Skip ∷ Skip ∷ In First ∷ []
plan l.PropertyParameter p = Skip ∷ Tree ∷ Skip ∷ Skip ∷ In First ∷ []
plan l.KeyPattern p = Tree ∷ Tree ∷ In First ∷ []
plan l.IfStatement p = Tree ∷ Tree ∷ In First ∷ []
plan l.MarkedParameter p = Tree ∷ Skip ∷ Skip ∷ In First ∷ []
plan l.TypedDeclarator p = Tree ∷ Skip ∷ Skip ∷ In First ∷ []
plan l.ThisParameter p = Skip ∷ Skip ∷ Skip ∷ In First ∷ []
plan l.Parameters p = In Firsts ∷ In First ∷ []
plan l.TypedParameters p = In Firsts ∷ In First ∷ []
plan l.ForEachStatement p = Tree ∷ In Second ∷ Tree ∷ []
plan l.Variables p = Skip ∷ Tree ∷ In Firsts ∷ []
plan l.Using p = Skip ∷ Tree ∷ In Firsts ∷ []
plan l.NamespaceDeclaration p = Skip ∷ Skip ∷ In Firsts ∷ []
plan l.Yield p = In Second ∷ []
plan l.OptionalPost p = In Optional ∷ []
plan l.TypedBinary p = Tree ∷ In Second ∷ []
plan l.TypedOptionalPost p = In TypedOptional ∷ []
plan l.ForStatement p = for_ways (is_there (group p 0)) (is_there (group p 1))
plan l.ReturnStatement p = In Returned ∷ []
plan l.SwitchStatement p = Tree ∷ In Cases ∷ []
plan l.TryStatement p = Tree ∷ In Handlers ∷ []
plan l.TypedTryStatement p = Tree ∷ In Handlers ∷ []
plan l.EnumDeclaration p = Skip ∷ Skip ∷ In Members ∷ []
plan l.ModuleDeclaration p = Skip ∷ In Body ∷ []
plan _ p = []

-- ---- the sites of parts
abbrev pub is_tree : Way → Bool
is_tree Tree = true
is_tree (Either g) = true
is_tree _ = false

abbrev pub ways_in : Way → Part → List Way
ways_in (In g) v = ways g v
ways_in (Either g) v = ways g v
ways_in _ v = []

abbrev pub rest_in : Way → Way
rest_in (In g) = rest g
rest_in (Either g) = rest g
rest_in _ = Skip

-- the way of the first part, and those of the parts behind it
abbrev pub first_way : List Way → Way → Way
first_way [] last = last
first_way (w ∷ ws) last = w

abbrev pub other_ways : List Way → List Way
other_ways [] = []
other_ways (w ∷ ws) = ws

abbrev pub as_tree : Bool → Part → Found
as_tree true v = found v
as_tree false v = []

-- the sites of parts whose first ones are taken so, and all behind these so
unfoldable pub taken : List Way → Way → Part → Found
taken ws last (more v vs) =
    (as_tree (is_tree (first_way ws last)) v ++ taken (ways_in (first_way ws last) v) (rest_in (first_way ws last)) v)
    ++ taken (other_ways ws) last vs
taken ws last _ = []

-- the sites of one that is taken so
abbrev pub on : Way → Part → Found
on w v = as_tree (is_tree w) v ++ taken (ways_in w v) (rest_in w) v

-- ---- the sites that a node is itself
module _ (x : List ℕ) (ts : List Token) where
  -- the literal at a place, with the attribute that the group at another gives
  abbrev pub declares : DependencyKind → Bool → Part → ℕ → ℕ → Found
  declares kind type_only p src with = naming x ts kind type_only (attribute_in x ts (group p with)) (str_in x ts (part p src))

  abbrev pub requires : Part → Found
  requires p = naming x ts kind.ImportEquals (is_there (group p 0)) Unknown (str_in x ts (part p 2))

  abbrev pub calls : DependencyKind → Part → Found
  calls kind p = naming x ts kind false (options_in x ts (group p 1)) (src_in x ts (part p 0))

  unfoldable pub names : NodeKind → Part → Found
  names l.BareImport p = declares kind.Import false p 0 1
  names l.FromImport p = declares kind.Import (is_there (group p 0)) p 2 3
  names l.SourceImport p = declares kind.ImportSource false p 1 2
  names l.DeferImport p = declares kind.ImportDefer false p 1 2
  names l.RequireImport p = requires p
  names l.ExportedRequireImport p = requires p
  names l.ExportAll p = declares kind.Export (is_there (group p 0)) p 2 3
  names l.ExportNames p = declares kind.Export (is_there (group p 0)) (group p 2) 0 1
  names l.ImportCall p = calls kind.Dynamic p
  names l.SourceCall p = calls kind.DynamicSource p
  names l.DeferCall p = calls kind.DynamicDefer p
  names _ p = []
