use Rattle.graph_entry.specs.Specifier.{text_of}
use Rattle.graph_entry.specs.Ways.{ways_by}
use Rattle.graph_entry.specs.Analysed.{OfContent, media_type_at}
use Rattle.graph_entry.proofs.ParseLemmas.{parsed_error}
use Rattle.graph_entry.proofs.parse.parse_by.Goals as goal

-- the error that the content makes
pub returns-in-Ok-Error : goal.returns-in-Ok-Error
returns-in-Ok-Error g c =
    let s = text_of c.args.specifier.now in
    let ways = ways_by (g.R.Resolver.resolving c.args.resolver.now) (g.M.ModuleAnalyzer.reads c.args.analyzer.now) in
    parsed_error (OfContent ways s (media_type_at s c.args.headers.now) c.args.content) c.in-Ok-Error.error
    (rw c.in-Ok-Error.field-0-is at c.in-Ok-Error.ensures)

-- the module that it makes
pub returns-in-Ok-Module : goal.returns-in-Ok-Module
returns-in-Ok-Module g c = rw c.in-Ok-Module.field-0-is at c.in-Ok-Module.ensures
