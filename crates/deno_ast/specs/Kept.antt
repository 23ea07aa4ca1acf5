-- What contracts see of what copies of a source share.
use Rattle.std.specs.Prelude.{ℕ, List, Option}
use Rattle.std.specs.Arc.{arc_value}
use Rattle.deno_ast.specs.declared.source.Source.{Source}
use Rattle.deno_ast.specs.Parsed.{Parsed}

abbrev pub parsed : Source → Option (List ℕ) → Parsed
parsed s scopes = record {
  specifier = s.specifier;
  media_type = s.media_type;
  text = s.text;
  tree = arc_value s.program;
  references = s.references;
  comments = s.comments;
  tokens = s.tokens;
  scopes = scopes;
}
