-- The plug of strings is what passes of the entry.
use Rattle.summaries.specs.Summaries.{says_claim, held}
use Rattle.entries.proofs.Loading.{kept_entry, emptied}
use Rattle.entries.proofs.Transfers.{way_decides, fill_decides}
use Rattle.entries.proofs.fill_within.Goals as goal

pub returns : goal.returns
returns c =
    let args = c.args in
    let empty = c.requires in
    let loads = c.load.ensures in
    record {
      decides = λ xs Y zs l is m.
          fill_decides args.attribute args.strings (held says_claim xs) Y is (held says_claim zs) c.items_hold-holds.result
          (way_decides _ _ c.filling.ensures _ _ _ (c.items_hold-holds.ensures xs (held says_claim zs) l (kept_entry args.s.now args.there.at _ _ empty loads zs m)));
      empty = emptied args.s.now args.there.at _ _ empty loads _ c.unload.ensures;
    }
