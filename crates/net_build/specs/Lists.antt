-- The lists of a network, before its ends are in groups.
use Rattle.std.specs.Prelude.{◌≡◌, map}
use Rattle.pra_base.specs.declared.code.VProc.{VProc}
use Rattle.pra_base.specs.Valid.{near}
use Rattle.net_form.specs.Network.{net_block, extras, pairs, ties}
use Rattle.net_form.specs.Strands.{Lives, strands}
use Rattle.net_form.specs.Tables.{all_tables}
use Rattle.net_build.specs.declared.lists.Lists.{Lists}

pub record AreLists (code : VProc) (live : Lives) (l : Lists) : Type 0 where
  pub near_is : l.near ≡ near code.vars code.args
  pub blocks_are : l.blocks ≡ map net_block code.blocks
  pub strands_are : l.strands ≡ strands all_tables code live
  pub extras_are : l.extras ≡ extras all_tables code l.strands
  pub pairs_are : l.pairs ≡ pairs all_tables code l.strands
  pub ties_are : l.ties ≡ ties code l.strands
