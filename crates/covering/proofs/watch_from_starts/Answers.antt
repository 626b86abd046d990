-- `covering::watch_from_starts` meets its contract: the start cells are as the run asks. Assumes nothing.
use Rattle.bars.proofs.Early.{early_none}
use Rattle.covering.proofs.Starts.{valid_domain, run_asks}
use Rattle.covering.proofs.Watching.{watched_open}
use Rattle.covering.proofs.watch_from_starts.Goals as goal

pub starts-starts-requires : goal.starts-starts-requires
starts-starts-requires c =
    let v = early_none _ _ _ c.requires in
    (valid_domain _ _ _ v, v.region, v.long)

pub watch-requires : goal.watch-requires
watch-requires c =
    let a = run_asks _ _ _ (early_none _ _ _ c.requires) c.args.inner _ _ _ c.starts-starts.ensures.count_value.0 c.starts-starts.ensures.count_value.1 _ c.starts-starts.auto.mem in
    record {
      memory_words_in_bounds = a.0;
      asks = a.1;
      count_bound = a.2;
      all = a.3;
    }

pub returns : goal.returns
returns c =
    let r = c.watch.ensures in
    watched_open _ _ _ _ _ _ _ _ _ _ _ _ _ c.requires c.starts-starts.ensures.count_value.0 c.starts-starts.ensures.count_value.1 c.starts-starts.auto.mem c.starts-starts.ensures.mem_after (r.value, r.out_after, r.mem_after)
