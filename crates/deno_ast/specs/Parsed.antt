-- What a parsed source keeps.
use Rattle.std.specs.List.{slice_get}
use Rattle.std.specs.Prelude.{ℕ, ◌+◌, Bool, true, false, List, ◌++◌, length, Option, Some, None, if◌then◌else◌}
use Rattle.url.specs.Parts.{Parts}
use Rattle.es_token.specs.declared.token.Token.{Token}
use Rattle.es_token.specs.declared.token.Comment.{Comment}
use Rattle.es_ast.specs.declared.ast.Program.{Program}
use Rattle.es_ast.specs.declared.ast.Program.TheVariants.{Module, Script}
use Rattle.es_site.specs.declared.site.Site.{Site}
use Rattle.es_site.specs.Sites.{sites_of}
use Rattle.es_comments.specs.Placed.{Placed, comments_at}
use Rattle.media_type.specs.declared.media_type.MediaType.{MediaType}
use Rattle.media_type.specs.MediaType.{is_typed}
use Rattle.es_ast.specs.declared.ast.ModuleItem.{ModuleItem}
use Rattle.es_program.specs.Owned.{Owned}
use Rattle.es_program.specs.items.Spans.{span_of_lent}
use Rattle.deno_ast.specs.Refs.{is_script_by_items, shebang_of, items_of}

-- the tokens are kept where that was asked for, and so are the scope numbers of names, each at the place of its token;
-- the comments stand at their places
pub record Parsed : Type 0 where
  pub specifier : Parts
  pub media_type : MediaType
  pub text : List ℕ
  pub tree : Owned Program
  pub references : List Site
  pub comments : Placed
  pub tokens : Option (List Token)
  pub scopes : Option (List ℕ)

-- the same source with these scope numbers
abbrev pub with_scopes : Parsed → Option (List ℕ) → Parsed
with_scopes s scopes = record s { scopes = scopes }

-- its sites: reference comments come first, then those of its tree
abbrev pub parsed_sites : Parsed → List Site
parsed_sites s = s.references ++ sites_of s.tree.typed

abbrev pub is_script : Program → Bool
is_script (Module m) = false
is_script (Script s) = true

-- whether it is one of CommonJS: of a typed source its items tell
abbrev pub computed_is_script : Parsed → Bool
computed_is_script s = if is_typed s.media_type then is_script_by_items s.tree.typed else is_script s.tree.typed

-- the comments at the first item; with no item, those behind the shebang, whose text stands behind `#!`, or those at 0
abbrev pub leading_by : Placed → Option ModuleItem → Option (List ℕ) → Option (List Comment)
leading_by placed (Some item) shebang = comments_at placed.leading (span_of_lent item).start
leading_by placed None (Some text) = comments_at placed.trailing (length text + 2)
leading_by placed None None = comments_at placed.leading 0

-- the leading comments of a source
abbrev pub leading_comments : Parsed → Option (List Comment)
leading_comments s = leading_by s.comments (slice_get (items_of s.tree.typed) 0) (shebang_of s.tree.typed)
