-- What the functions inside the crate promise each other.
use Rattle.std.specs.Prelude.{ℕ, Bool, List, Option, Some, None, if◌then◌else◌}
use Rattle.es_ast.specs.declared.ast.ModuleItem.{ModuleItem, out-ModuleItem}
use Rattle.es_program.specs.items.Items.{is_some, decl_by}
use Rattle.es_token.specs.declared.token.Token.{Token}
use Rattle.es_lexer.specs.Reads.{Reads}
use Rattle.es_comments.specs.Placed.{Placed}
use Rattle.grammar_theory.specs.declared.error.Mode.{Mode}
use Rattle.deno_ast.specs.declared.params.ParseParams.{ParseParams}
use Rattle.deno_ast.specs.declared.reading.Reading.{Reading}
use Rattle.es_parser.specs.Answers.{IsOwn}
use Rattle.source_reading.specs.Tree.{IsFirstTree}
use Rattle.source_reading.specs.Read.{references_in}
use Rattle.deno_ast.specs.Parsed.{Parsed}
use Rattle.deno_ast.specs.Source.{lang_for, captured}

-- the parameters with another text
abbrev pub with_text : ParseParams → List ℕ → ParseParams
with_text p text = record {
  specifier = p.specifier;
  text = text;
  media_type = p.media_type;
  capture_tokens = p.capture_tokens;
  scope_analysis = p.scope_analysis;
  maybe_syntax = p.maybe_syntax;
}

-- the text of the parameters was read so
pub record IsReading (modes : List Mode) (params : ParseParams) (r : Reading) : Type 0 where
  pub reads : Reads params.text r.tokens r.comments
  pub is_tree : IsFirstTree (lang_for params) params.text r.tokens modes r.program.typed
  pub own : IsOwn (lang_for params) params.text r.tokens r.program

-- the source of what was read, with the comments at these places, and these scope numbers
abbrev pub parsed_of : ParseParams → Reading → Placed → Option (List ℕ) → Parsed
parsed_of p r placed scopes = record {
  specifier = p.specifier;
  media_type = p.media_type;
  text = p.text;
  tree = r.program;
  references = references_in p.media_type r.tokens r.comments;
  comments = placed;
  tokens = captured p.capture_tokens r.tokens;
  scopes = scopes;
}

-- an import or an export
abbrev pub is_decl : ModuleItem → Bool
is_decl item = is_some (decl_by (out-ModuleItem item))
