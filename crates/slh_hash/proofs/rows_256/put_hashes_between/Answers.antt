use Rattle.std.proofs.Common.{◌++◌, ◌*◌, ◌∙◌, List, ℕ, ap, rules, take}
use Rattle.slh_hash.proofs.Grouped.{kept_behind, length-between, put_between}
use Rattle.slh_hash.proofs.rows_256.put_hashes_between.Goals as goal

pub put_hashes-requires : goal.put_hashes-requires
put_hashes-requires g c =
    (search rules, (search rules, (c.requires.small, (c.requires.few, length-between c.USIZE-n.result g.N.ArraySize.USIZE c.args.done c.args.end c.args.out.now c.USIZE-n.ensures c.requires.order c.requires.room))))

pub returns : goal.returns
returns g c =
    let n = g.N.ArraySize.USIZE in
    let m = c.USIZE-n.result in
    let same = c.USIZE-n.ensures in
    let size = c.put_hashes.auto.out ∙ length-between m n c.args.done c.args.end c.args.out.now same c.requires.order c.requires.room in
    record {
      front = put_between m n c.args.done c.args.end c.args.out.now c.put_hashes.new.out same c.requires.order c.requires.room size
          ∙ ap (λ (xs : List ℕ). take (c.args.done * n) c.args.out.now ++ xs) c.put_hashes.ensures.value;
      rest = kept_behind m n c.args.done c.args.end c.args.out.now c.put_hashes.new.out same c.requires.order c.requires.room size;
      step = c.put_hashes.ensures.step;
    }
