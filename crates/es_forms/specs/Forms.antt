-- Where a program names another module in the forms that are chosen, in the order of the text: what a walk by the steps of
-- its alternatives (`plan`) meets.
use Rattle.std.specs.Prelude.{ℕ, ◌==◌, Bool, true, false, not, ◌&&◌, ◌||◌, if◌then◌else◌, List, [], ◌∷◌, ◌++◌, Option, Some, None, codes, slice_get, bytes_eq}
use Rattle.es_token.specs.declared.token.Token.{Token}
use Rattle.es_token.specs.declared.token.TokenKind.TheVariants as k
use Rattle.grammar_theory.specs.Key.{same_kind}
use Rattle.es_grammar.specs.declared.rows.NodeKind.{NodeKind}
use Rattle.es_grammar.specs.declared.rows.NodeKind.TheVariants as l
use Rattle.es_grammar.specs.declared.cst.tree.Cst.{Cst}
use Rattle.es_site.specs.declared.site.Site.{Site}
use Rattle.es_site.specs.declared.site.Attribute.TheVariants.{Unknown}
use Rattle.es_site.specs.declared.site.DependencyKind.{DependencyKind}
use Rattle.es_site.specs.declared.site.DependencyKind.TheVariants as kind
use Rattle.es_site.specs.Sites.{site_at}
use Rattle.es_lowering.specs.Texts.{ident_of, str_of}
use Rattle.es_syntax.specs.declared.entry.Lean.{Lean}
use Rattle.es_scopes.specs.Numbers.{ids, number_at}
use Rattle.es_walk.specs.declared.step.Path.{Path}
use Rattle.es_walk.specs.declared.step.Path.TheVariants as path
use Rattle.es_walk.specs.declared.step.Step.{Step}
use Rattle.es_walk.specs.declared.step.Step.TheVariants.{Act as Do, Rest, At}
use Rattle.es_walk.specs.Part.{Part, part, as_group, follow, number_in, is_there, node_in}
use Rattle.es_walk.specs.Walk.{Analysis, walked}
use Rattle.es_required.specs.Required.{Marks, marks, is_required}
use Rattle.es_forms.specs.declared.chosen.Forms.{Forms}
use Rattle.es_forms.specs.declared.steps.Place.{Place}
use Rattle.es_forms.specs.declared.steps.Place.TheVariants as place
use Rattle.es_forms.specs.declared.steps.Way.{Way}
use Rattle.es_forms.specs.declared.steps.Way.TheVariants as way
use Rattle.es_forms.specs.declared.steps.Act.{Act}
use Rattle.es_forms.specs.declared.steps.Act.TheVariants as act

abbrev pub Sites : Type 0
Sites = List Site

-- parts of a node, where each node has its sites
abbrev pub Parts : Type 0
Parts = Part (Place → Sites)

abbrev pub Node : Type 0
Node = Option (NodeKind × Parts)

-- ---- where forms are
-- All nodes are walked but the body of a `with` statement, in which any name may be that of a property.
unfoldable pub plan : NodeKind → List (Step Way Act (Unit {0}))
plan l.Chain = Do act.Call ∷ Rest way.Inner ∷ []
plan l.New = Do (act.New (path.In 1 0)) ∷ Rest (way.Made (path.In 1 0)) ∷ []
plan l.TypedNew = Do (act.New (path.In 2 0)) ∷ Rest (way.Made (path.In 2 0)) ∷ []
plan l.Arguments = Rest way.Same ∷ []
plan l.ImportType = Do act.Type ∷ Rest way.Inner ∷ []
plan l.WithStatement = At way.Inner (path.At 0) ∷ []
plan _ = Rest way.Inner ∷ []

unfoldable pub operand_plan : Lean → List (Step Way Act (Unit {0}))
operand_plan lean = Rest way.Inner ∷ []

-- ---- the parts of a form
abbrev pub is_meta_by : NodeKind → Bool
is_meta_by l.ImportMeta = true
is_meta_by _ = false

-- import.meta
abbrev pub is_meta : Node → Bool
is_meta (Some n) = is_meta_by n.0
is_meta None = false

-- the token that a name is
abbrev pub name_by : NodeKind → Parts → Option ℕ
name_by l.Name p = number_in (part p 0)
name_by _ p = None

abbrev pub name_in : Node → Option ℕ
name_in (Some n) = name_by n.0 n.1
name_in None = None

-- the token behind the `.` of a member
abbrev pub member_by : NodeKind → Parts → Option ℕ
member_by l.MemberPost p = number_in (part p 0)
member_by _ p = None

abbrev pub member_in : Node → Option ℕ
member_in (Some n) = member_by n.0 n.1
member_in None = None

-- where the arguments stand in what follows the callee: `(a)` and `?.(a)`, in TypeScript behind type arguments
abbrev pub arguments_by : NodeKind → Option Path
arguments_by l.CallPost = Some (path.At 0)
arguments_by l.OptionalPost = Some (path.Deep 0 0 0)
arguments_by l.TypedCallPost = Some (path.At 1)
arguments_by l.TypedOptionalPost = Some (path.Deep 0 0 1)
arguments_by _ = None

-- where the arguments of `new` stand, if it has any
abbrev pub made_by : NodeKind → Option Path
made_by l.New = Some (path.In 1 0)
made_by l.TypedNew = Some (path.In 2 0)
made_by _ = None

-- the token that a string literal is
abbrev pub literal_by : NodeKind → Parts → Option ℕ
literal_by l.Str p = number_in (part p 0)
literal_by _ p = None

abbrev pub literal_in : Node → Option ℕ
literal_in (Some n) = literal_by n.0 n.1
literal_in None = None

-- the first of arguments, without `...`
abbrev pub first_by : NodeKind → Parts → Node
first_by l.Arguments p =
    if is_there (as_group (follow p (path.Deep 0 0 0))) then None else node_in (follow p (path.Deep 0 0 1))
first_by _ p = None

abbrev pub first_in : Node → Node
first_in (Some n) = first_by n.0 n.1
first_in None = None

-- the second of arguments that are two, without `...`
abbrev pub second_by : NodeKind → Parts → Node
second_by l.Arguments p =
    if is_there (as_group (follow p (path.Deep 0 1 0))) || is_there (as_group (follow p (path.In 0 2))) then None
    else node_in (follow p (path.Deep 0 1 1))
second_by _ p = None

abbrev pub second_in : Node → Node
second_in (Some n) = second_by n.0 n.1
second_in None = None

abbrev pub argument_at : Option Path → Parts → Option ℕ
argument_at (Some at) p = literal_in (first_in (node_in (follow p at)))
argument_at None p = None

-- of what follows a callee: it is a call whose first argument is a string literal
abbrev pub argument_in : Node → Option ℕ
argument_in (Some n) = argument_at (arguments_by n.0) n.1
argument_in None = None

-- the arguments of a worker stand in it, all else doesn't
abbrev pub place_by : Option ℕ → Place
place_by (Some n) = place.Worker
place_by None = place.Plain

-- ---- the site of a form
module _ (x : List ℕ) (ts : List Token) where
  abbrev pub same_word : List ℕ → Option Token → Bool
  same_word word (Some t) = bytes_eq (ident_of x t).sym word
  same_word word None = false

  abbrev pub is_word : List ℕ → Option ℕ → Bool
  is_word word (Some n) = same_word word (slice_get ts n)
  is_word word None = false

  -- the string literal that a token is, as a site
  abbrev pub site_by : DependencyKind → Bool → Option Token → Sites
  site_by named only (Some t) =
      if same_kind t.kind k.Str then site_at named only (str_of x t) Unknown ∷ [] else []
  site_by named only None = []

  abbrev pub site_of : DependencyKind → Bool → Option ℕ → Sites
  site_of named only (Some n) = site_by named only (slice_get ts n)
  site_of named only None = []

  -- of a chain: behind its first part stand `.resolve`, and a call whose first argument is a string literal
  abbrev pub resolved_in : Parts → Option ℕ
  resolved_in p =
      if is_word (codes "resolve") (member_in (node_in (part p 1))) then argument_in (node_in (follow p (path.Deep 2 0 0)))
      else None

  -- import.meta.url
  abbrev pub is_own_by : NodeKind → Parts → Bool
  is_own_by l.Chain p =
      is_meta (node_in (part p 0)) && (is_word (codes "url") (member_in (node_in (part p 1)))
      && not (is_there (as_group (part p 2))))
  is_own_by _ p = false

  abbrev pub is_own : Node → Bool
  is_own (Some n) = is_own_by n.0 n.1
  is_own None = false

-- `number` tells the scope that declares a name, by the name's token; 0 where none does
module _ (x : List ℕ) (ts : List Token) (number : ℕ → ℕ) where
  -- the name is this word, and no scope around declares it
  abbrev pub is_free : List ℕ → Option ℕ → Bool
  is_free word (Some n) = same_word x ts word (slice_get ts n) && (number n == 0)
  is_free word None = false

  abbrev pub is_worker : Option ℕ → Bool
  is_worker at = is_free (codes "Worker") at || is_free (codes "SharedWorker") at

  -- the literal of ("a", import.meta.url)
  abbrev pub located_in : Node → Option ℕ
  located_in arguments = if is_own x ts (second_in arguments) then literal_in (first_in arguments) else None

  -- that of new URL("a", import.meta.url), by its parts and the place of its arguments
  abbrev pub address_by : Parts → Option Path → Option ℕ
  address_by p (Some at) =
      if is_free (codes "URL") (name_in (node_in (part p 0))) then located_in (node_in (follow p at)) else None
  address_by p None = None

  abbrev pub address_in : Node → Option ℕ
  address_in (Some n) = address_by n.1 (made_by n.0)
  address_in None = None

  -- that of new Worker(new URL("a", import.meta.url), ..)
  abbrev pub worker_by : Parts → Path → Option ℕ
  worker_by p at =
      if is_worker (name_in (node_in (part p 0))) then address_in (first_in (node_in (follow p at))) else None

  module _ (chosen : Forms) (ms : Marks) where
    -- that of a worker, if workers are chosen
    abbrev pub worker_at : Parts → Path → Option ℕ
    worker_at p at = if chosen.workers then worker_by p at else None

    -- that of an address, if they are chosen; that of a worker is none
    abbrev pub address_at : Place → Parts → Path → Option ℕ
    address_at place.Plain p at = if chosen.addresses then address_by p (Some at) else None
    address_at place.Worker p at = None

    -- of `new`: a worker, or an address
    abbrev pub made_at : Place → Parts → Path → Option ℕ → Sites
    made_at here p at (Some n) = site_of x ts kind.Worker false (Some n)
    made_at here p at None = site_of x ts kind.Address false (address_at here p at)

    -- the name is a free `require`, or one that is made by `createRequire`
    abbrev pub is_require : Option ℕ → Bool
    is_require at = is_free (codes "require") at || is_required x ts number ms at

    -- of a chain: require("a") and require.resolve("a"), if they are chosen
    abbrev pub required_at : Parts → Sites
    required_at p =
        if chosen.commonjs && is_require (name_in (node_in (part p 0)))
        then site_of x ts kind.Require false (argument_in (node_in (part p 1)))
        ++ site_of x ts kind.RequireResolve false (resolved_in x ts p)
        else []

    -- import.meta.resolve("a"), if addresses are chosen
    abbrev pub located_at : Parts → Sites
    located_at p =
        if chosen.addresses && is_meta (node_in (part p 0)) then site_of x ts kind.Address false (resolved_in x ts p)
        else []

    -- the type import("a"), if such types are chosen
    abbrev pub typed_at : Parts → Sites
    typed_at p = if chosen.type_imports then site_of x ts kind.TypeImport true (number_in (part p 0)) else []

    abbrev pub acts : Place → Parts → Act → Sites
    acts here p act.Call = required_at p ++ located_at p
    acts here p (act.New at) = made_at here p at (worker_at p at)
    acts here p act.Type = typed_at p

    abbrev pub leads : Place → Parts → Way → Option Place
    leads here p way.Inner = Some place.Plain
    leads here p way.Same = Some here
    leads here p (way.Made at) = Some (place_by (worker_at p at))

    abbrev pub rules : Analysis Place Way Act (Unit {0}) Site
    rules = record {
      plan = plan;
      turn = λ t. [];
      operands = λ lean. Some place.Plain;
      operand = operand_plan;
      leads = leads;
      acts = acts;
    }

-- the sites of the forms that are chosen, by the scopes of the program's names
unfoldable pub forms_in : Forms → List ℕ → List Token → Cst → Sites
forms_in chosen x ts tree = walked (rules x ts (number_at (ids x ts tree)) chosen (marks x ts tree)) tree place.Plain
