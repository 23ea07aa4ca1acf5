-- Where names and scopes stand among the parts of the nodes of each alternative, in the order of the text: a line for
-- each alternative that declares, opens a scope or passes a part over; any other uses what stands in it (ECMA-262, "Static
-- Semantics: Scope Analysis"; of TypeScript, its handbook). The scope of a function begins after its name or key; that of
-- a name of its own is around it.
use Rattle.std.specs.Prelude.{true, false, List, [], ◌∷◌}
use Rattle.es_grammar.specs.declared.rows.NodeKind.{NodeKind}
use Rattle.es_grammar.specs.declared.rows.NodeKind.TheVariants as l
use Rattle.es_walk.specs.declared.step.Path.TheVariants as path
use Rattle.es_walk.specs.declared.step.Step.{Step}
use Rattle.es_walk.specs.declared.step.Step.TheVariants.{Act as Do, Rest, At, All, Turns}
use Rattle.es_scopes.specs.declared.steps.When.TheVariants.{Always, Apart, Caught, Braced, Named}
use Rattle.es_scopes.specs.declared.steps.Way.{Way}
use Rattle.es_scopes.specs.declared.steps.Way.TheVariants.{Same, Uses, Binds, Body, Word, Exported}
use Rattle.es_scopes.specs.declared.steps.Act.{Act}
use Rattle.es_scopes.specs.declared.steps.Act.TheVariants as act
use Rattle.es_scopes.specs.declared.steps.Turn.{Turn}
use Rattle.es_scopes.specs.declared.steps.Turn.TheVariants as turn

unfoldable pub plan : NodeKind → List (Step Way Act Turn)
-- ---- programs and their items
plan l.Module = Do (act.Open Always true) ∷ Rest Binds ∷ Do (act.Close Always) ∷ []
plan l.Script = Do (act.Open Always true) ∷ Rest Binds ∷ Do (act.Close Always) ∷ []
plan l.SourceImport = Do (act.Name Binds 0) ∷ []
plan l.DeferImport = Do (act.Name Binds 0) ∷ []
plan l.DefaultClause = Do (act.Name Binds 0) ∷ []
plan l.Namespace = Do (act.Name Binds 0) ∷ []
plan l.DefaultAndClause = Do (act.Name Binds 0) ∷ Rest Uses ∷ []
plan l.RenamedImport = Do (act.Name Binds 2) ∷ []
plan l.ImportedName = Do (act.Name Binds 1) ∷ []
plan l.RequireImport = Do (act.Name Binds 1) ∷ []
plan l.ExportedRequireImport = Do (act.Name Binds 1) ∷ []
plan l.EntityImport = Do (act.Name Binds 1) ∷ Rest Uses ∷ []
plan l.ExportedEntityImport = Do (act.Name Binds 1) ∷ Rest Uses ∷ []
plan l.ExportNames = All Exported (path.At 1) ∷ []
plan l.ExportedName = Do (act.NameIn Uses 1 0) ∷ []
plan l.ExportDeclaration = Rest Binds ∷ []
plan l.ExportDefaultFunction = Rest Binds ∷ []
plan l.ExportDefaultClass = Rest Binds ∷ []
plan l.ExportDefaultInterface = Rest Binds ∷ []
-- ---- statements
plan l.Block = Do (act.Open Apart false) ∷ Rest Binds ∷ Do (act.Close Apart) ∷ []
plan l.LabelledStatement = Rest Binds ∷ []
plan l.IfStatement = At Uses (path.At 0) ∷ At Binds (path.At 1) ∷ All Binds (path.At 2) ∷ []
plan l.ForStatement =
    Do (act.Open Always false) ∷ All Binds (path.At 0) ∷ All Binds (path.At 1) ∷ All Uses (path.At 2)
    ∷ All Uses (path.At 3) ∷ All Uses (path.At 4) ∷ At Binds (path.At 5) ∷ Do (act.Close Always) ∷ []
plan l.ForEachStatement =
    Do (act.Open Always false) ∷ At Uses (path.At 0) ∷ All Uses (path.At 1) ∷ At Binds (path.At 2)
    ∷ Do (act.Close Always) ∷ []
plan l.ForAwaitStatement =
    Do (act.Open Always false) ∷ At Uses (path.At 0) ∷ At Uses (path.At 1) ∷ At Binds (path.At 2)
    ∷ Do (act.Close Always) ∷ []
plan l.WhileStatement = At Uses (path.At 0) ∷ At Binds (path.At 1) ∷ []
plan l.WithStatement = At Uses (path.At 0) ∷ At Binds (path.At 1) ∷ []
plan l.DoStatement = At Binds (path.At 0) ∷ At Uses (path.At 1) ∷ []
plan l.SwitchStatement =
    At Uses (path.At 0) ∷ Do (act.Open Always false) ∷ Turns Uses (path.At 1) turn.Case ∷ Do (act.Close Always) ∷ []
-- after the block of a `try` stands that of `finally` alone, or a parameter, a block and what may follow
plan l.TryStatement =
    At Binds (path.At 0) ∷ At Binds (path.In 1 0) ∷ Do (act.Open Caught false) ∷ At Binds (path.Deep 1 0 0)
    ∷ At Binds (path.In 1 1) ∷ Do (act.Close Caught) ∷ At Binds (path.Deep 1 2 0) ∷ []
plan l.TypedTryStatement =
    At Binds (path.At 0) ∷ At Binds (path.In 1 0) ∷ Do (act.Open Caught false) ∷ At Binds (path.Deep 1 0 0)
    ∷ At Uses (path.Deeper 1 0 1 0) ∷ At Binds (path.In 1 1) ∷ Do (act.Close Caught) ∷ At Binds (path.Deep 1 2 0) ∷ []
-- ---- variables
plan l.VariableDeclaration = Rest Binds ∷ []
plan l.UsingDeclaration = Rest Binds ∷ []
plan l.Using = Rest Binds ∷ []
plan l.Variables = Rest Word ∷ []
plan l.Declarator = At Same (path.At 0) ∷ At Uses (path.At 1) ∷ []
plan l.TypedDeclarator = At Same (path.At 0) ∷ All Uses (path.At 2) ∷ All Uses (path.At 3) ∷ []
plan l.VariableHead = Rest Word ∷ []
plan l.TypedVariableHead = At Word (path.At 1) ∷ All Uses (path.At 2) ∷ []
plan l.UsingHead = Do (act.Name Binds 1) ∷ []
-- ---- patterns and parameters
plan l.NamePattern = Do (act.Name Same 0) ∷ []
plan l.ArrayPattern = Rest Same ∷ []
plan l.ObjectPattern = Rest Same ∷ []
plan l.RestPattern = Rest Same ∷ []
plan l.RestProperty = Rest Same ∷ []
plan l.DefaultPattern = At Same (path.At 0) ∷ At Uses (path.At 1) ∷ []
plan l.DefaultParameter = At Same (path.At 0) ∷ At Uses (path.At 1) ∷ []
plan l.KeyPattern = At Uses (path.At 0) ∷ At Same (path.At 1) ∷ All Uses (path.At 2) ∷ []
plan l.NameProperty = Do (act.Name Same 0) ∷ All Uses (path.At 1) ∷ []
plan l.Parameters = Rest Binds ∷ []
plan l.TypedParameters = All Binds (path.At 0) ∷ At Binds (path.In 1 0) ∷ All Uses (path.In 1 1) ∷ []
plan l.MarkedParameter = At Same (path.At 0) ∷ All Uses (path.At 2) ∷ All Uses (path.At 3) ∷ []
plan l.PropertyParameter = At Same (path.At 1) ∷ All Uses (path.At 3) ∷ All Uses (path.At 4) ∷ []
-- ---- functions and arrows
plan l.Function =
    Do (act.Open (Named 1) false) ∷ Do (act.Own 1) ∷ Do (act.Open Always true) ∷ At Uses (path.At 2)
    ∷ At Body (path.At 3) ∷ Do (act.Close Always) ∷ Do (act.Close (Named 1)) ∷ []
plan l.AsyncFunction =
    Do (act.Open (Named 1) false) ∷ Do (act.Own 1) ∷ Do (act.Open Always true) ∷ At Uses (path.At 2)
    ∷ At Body (path.At 3) ∷ Do (act.Close Always) ∷ Do (act.Close (Named 1)) ∷ []
plan l.TypedFunction =
    Do (act.Open (Named 1) false) ∷ Do (act.Own 1) ∷ Do (act.Open Always true) ∷ At Uses (path.At 2)
    ∷ All Body (path.At 3) ∷ Do (act.Close Always) ∷ Do (act.Close (Named 1)) ∷ []
plan l.TypedAsyncFunction =
    Do (act.Open (Named 1) false) ∷ Do (act.Own 1) ∷ Do (act.Open Always true) ∷ At Uses (path.At 2)
    ∷ All Body (path.At 3) ∷ Do (act.Close Always) ∷ Do (act.Close (Named 1)) ∷ []
plan l.NameArrow = Do (act.Open Always true) ∷ Do (act.Name Binds 0) ∷ All Body (path.At 1) ∷ Do (act.Close Always) ∷ []
plan l.AsyncNameArrow =
    Do (act.Open Always true) ∷ Do (act.Name Binds 0) ∷ All Body (path.At 1) ∷ Do (act.Close Always) ∷ []
plan l.ParenthesizedArrow =
    Do (act.Open Always true) ∷ At Uses (path.At 0) ∷ All Body (path.At 1) ∷ Do (act.Close Always) ∷ []
plan l.AsyncParenthesizedArrow =
    Do (act.Open Always true) ∷ At Uses (path.At 0) ∷ All Body (path.At 1) ∷ Do (act.Close Always) ∷ []
plan l.TypedParenthesizedArrow =
    Do (act.Open Always true) ∷ All Uses (path.At 0) ∷ At Uses (path.At 1) ∷ All Uses (path.At 2)
    ∷ All Body (path.At 3) ∷ Do (act.Close Always) ∷ []
plan l.TypedAsyncParenthesizedArrow =
    Do (act.Open Always true) ∷ All Uses (path.At 0) ∷ At Uses (path.At 1) ∷ All Uses (path.At 2)
    ∷ All Body (path.At 3) ∷ Do (act.Close Always) ∷ []
-- ---- classes and their members
plan l.Class = Do (act.Open (Named 0) false) ∷ Do (act.Own 0) ∷ Rest Uses ∷ Do (act.Close (Named 0)) ∷ []
plan l.TypedClass = Do (act.Open (Named 0) false) ∷ Do (act.Own 0) ∷ Rest Uses ∷ Do (act.Close (Named 0)) ∷ []
plan l.AbstractClass = Do (act.Open (Named 0) false) ∷ Do (act.Own 0) ∷ Rest Uses ∷ Do (act.Close (Named 0)) ∷ []
plan l.StaticBlock = Do (act.Open Always true) ∷ Rest Body ∷ Do (act.Close Always) ∷ []
plan l.MethodMember =
    At Uses (path.At 1) ∷ Do (act.Open Always true) ∷ At Uses (path.At 2) ∷ At Body (path.At 3)
    ∷ Do (act.Close Always) ∷ []
plan l.GeneratorMember =
    At Uses (path.At 1) ∷ Do (act.Open Always true) ∷ At Uses (path.At 2) ∷ At Body (path.At 3)
    ∷ Do (act.Close Always) ∷ []
plan l.AsyncMember =
    At Uses (path.At 2) ∷ Do (act.Open Always true) ∷ At Uses (path.At 3) ∷ At Body (path.At 4)
    ∷ Do (act.Close Always) ∷ []
plan l.AccessorMember =
    At Uses (path.At 2) ∷ Do (act.Open Always true) ∷ At Uses (path.At 3) ∷ At Body (path.At 4)
    ∷ Do (act.Close Always) ∷ []
plan l.TypedMethodMember =
    At Uses (path.In 1 0) ∷ Do (act.Open Always true) ∷ At Uses (path.In 1 2) ∷ All Body (path.At 2)
    ∷ Do (act.Close Always) ∷ []
plan l.TypedGeneratorMember =
    At Uses (path.In 1 0) ∷ Do (act.Open Always true) ∷ At Uses (path.In 1 2) ∷ All Body (path.At 2)
    ∷ Do (act.Close Always) ∷ []
plan l.TypedAsyncMember =
    At Uses (path.In 2 0) ∷ Do (act.Open Always true) ∷ At Uses (path.In 2 2) ∷ All Body (path.At 3)
    ∷ Do (act.Close Always) ∷ []
plan l.TypedAccessorMember =
    At Uses (path.In 2 0) ∷ Do (act.Open Always true) ∷ At Uses (path.In 2 2) ∷ All Body (path.At 3)
    ∷ Do (act.Close Always) ∷ []
-- ---- properties of objects
plan l.Shorthand = Do (act.Name Uses 0) ∷ []
plan l.MethodProperty =
    At Uses (path.At 0) ∷ Do (act.Open Always true) ∷ At Uses (path.At 1) ∷ At Body (path.At 2)
    ∷ Do (act.Close Always) ∷ []
plan l.GeneratorProperty =
    At Uses (path.At 0) ∷ Do (act.Open Always true) ∷ At Uses (path.At 1) ∷ At Body (path.At 2)
    ∷ Do (act.Close Always) ∷ []
plan l.AsyncProperty =
    At Uses (path.At 1) ∷ Do (act.Open Always true) ∷ At Uses (path.At 2) ∷ At Body (path.At 3)
    ∷ Do (act.Close Always) ∷ []
plan l.AccessorProperty =
    At Uses (path.At 1) ∷ Do (act.Open Always true) ∷ At Uses (path.At 2) ∷ At Body (path.At 3)
    ∷ Do (act.Close Always) ∷ []
plan l.TypedMethodProperty =
    At Uses (path.In 0 0) ∷ Do (act.Open Always true) ∷ At Uses (path.In 0 1) ∷ At Body (path.At 1)
    ∷ Do (act.Close Always) ∷ []
plan l.TypedGeneratorProperty =
    At Uses (path.In 0 0) ∷ Do (act.Open Always true) ∷ At Uses (path.In 0 1) ∷ At Body (path.At 1)
    ∷ Do (act.Close Always) ∷ []
plan l.TypedAsyncProperty =
    At Uses (path.In 1 0) ∷ Do (act.Open Always true) ∷ At Uses (path.In 1 1) ∷ At Body (path.At 2)
    ∷ Do (act.Close Always) ∷ []
plan l.TypedAccessorProperty =
    At Uses (path.In 1 0) ∷ Do (act.Open Always true) ∷ At Uses (path.In 1 1) ∷ At Body (path.At 2)
    ∷ Do (act.Close Always) ∷ []
-- ---- expressions
plan l.Name = Do (act.Name Uses 0) ∷ []
-- ---- declarations of TypeScript
plan l.Declared = Rest Binds ∷ []
plan l.DeclaredVariables = Rest Binds ∷ []
plan l.InterfaceDeclaration = Do (act.Name Binds 0) ∷ Rest Uses ∷ []
plan l.AliasDeclaration = Do (act.Name Binds 0) ∷ Rest Uses ∷ []
plan l.EnumDeclaration = Do (act.Name Binds 1) ∷ Rest Uses ∷ []
plan l.NamespaceDeclaration =
    At Binds (path.At 1) ∷ Do (act.Open Always true) ∷ All Binds (path.At 2) ∷ Do (act.Close Always) ∷ []
plan l.ModuleDeclaration = Do (act.Open Braced true) ∷ Rest Binds ∷ Do (act.Close Braced) ∷ []
plan l.GlobalDeclaration = Do (act.Open Always true) ∷ Rest Binds ∷ Do (act.Close Always) ∷ []
-- ---- types: the first of a name's names; what stands after `import()` is a name of that module
plan l.Entity = Do (act.Name Same 0) ∷ []
plan l.EntityOfType = Do (act.Name Same 0) ∷ []
plan l.ImportType = All Uses (path.At 2) ∷ []
plan l.AssertsResult = Do (act.Name Uses 0) ∷ Rest Uses ∷ []
plan l.PredicateResult = Do (act.Name Uses 0) ∷ Rest Uses ∷ []
-- all names in any other part are used
plan _ = Rest Uses ∷ []
