-- By the graph of the entry.
use Rattle.summaries.specs.Summaries.{says_claim, held}
use Rattle.entries.proofs.Loading.{kept_entry, emptied}
use Rattle.entries.proofs.plug_within.Goals as goal

pub returns : goal.returns
returns c =
    let args = c.args in
    let empty = c.requires in
    let loads = c.load.ensures in record {
      decides = λ xs ys zs l m k. c.plug_holds-holds.ensures xs ys (held says_claim zs) l m (kept_entry args.s.now args.there.at _ _ empty loads zs k);
      empty = emptied args.s.now args.there.at _ _ empty loads _ c.unload.ensures;
    }
