-- All of the entry passes.
use Rattle.summaries.specs.Summaries.{says_claim, held}
use Rattle.entries.proofs.Loading.{kept_entry, emptied}
use Rattle.entries.proofs.Transfers.{way_decides, copy_decides}
use Rattle.entries.proofs.entry_within.Goals as goal

pub returns : goal.returns
returns c =
    let args = c.args in
    let empty = c.requires in
    let loads = c.load.ensures in
    record {
      decides = λ xs ys l m.
          copy_decides (held says_claim xs) (held says_claim ys) c.items_hold-holds.result
          (way_decides _ _ c.wholly.ensures _ _ _ (c.items_hold-holds.ensures xs (held says_claim ys) l (kept_entry args.s.now args.there.at _ _ empty loads ys m)));
      empty = emptied args.s.now args.there.at _ _ empty loads _ c.unload.ensures;
    }
