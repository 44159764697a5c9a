-- By the graph of the entry.
use Rattle.summaries.specs.Summaries.{says_claim, held}
use Rattle.entries.proofs.Loading.{kept_entry, emptied}
use Rattle.entries.proofs.fragment_within.Goals as goal

pub returns : goal.returns
returns c =
    let args = c.args in
    let empty = c.requires in
    let loads = c.load.ensures in record {
      decides = λ φ ys g m. c.fragment_holds-holds.ensures φ (held says_claim ys) g (kept_entry args.s.now args.there.at _ _ empty loads ys m);
      empty = emptied args.s.now args.there.at _ _ empty loads _ c.unload.ensures;
    }
