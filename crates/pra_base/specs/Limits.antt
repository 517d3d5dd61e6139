-- The limits on a source: each one's name, and how much there may be.
use Rattle.std.specs.Prelude.{ℕ, List, codes}
use Rattle.pra_base.specs.declared.limit.LimitKind.{LimitKind}
use Rattle.pra_base.specs.declared.limit.LimitKind.TheVariants.{Source, Tokens, Depth, ArrayLength}
use Rattle.pra_base.specs.declared.limit.LimitKind.TheVariants.{TypeWords, Procedures, Parameters}
use Rattle.pra_base.specs.declared.limit.LimitKind.TheVariants.{Scalars, AggregateWords}
use Rattle.pra_base.specs.declared.limit.LimitKind.TheVariants.{ModuleWords, Nodes, Input}

-- the name, as the bytes of a text
abbrev pub limit_name : LimitKind → List ℕ
limit_name Source = codes "source"
limit_name Tokens = codes "tokens"
limit_name Depth = codes "depth"
limit_name ArrayLength = codes "array-length"
limit_name TypeWords = codes "type-words"
limit_name Procedures = codes "procedures"
limit_name Parameters = codes "parameters"
limit_name Scalars = codes "scalars"
limit_name AggregateWords = codes "aggregate-words"
limit_name ModuleWords = codes "module-words"
limit_name Nodes = codes "nodes"
limit_name Input = codes "input"

abbrev pub limit_maximum : LimitKind → ℕ
limit_maximum Source = 1048576
limit_maximum Tokens = 65536
limit_maximum Depth = 64
limit_maximum ArrayLength = 1048576
limit_maximum TypeWords = 4194304
limit_maximum Procedures = 256
limit_maximum Parameters = 32
limit_maximum Scalars = 128
limit_maximum AggregateWords = 65536
limit_maximum ModuleWords = 4194304
limit_maximum Nodes = 2048
limit_maximum Input = 1048576
