use native.Mathlib.Omega.{arith}
use Rattle.er7.proofs.PrintedPaths.{path_length, name_length}
use Rattle.text.proofs.Writes.{wrote_then}
use lib.ListN.{length}
use mathlib.Core.Path.{ap}
use Rattle.text.proofs.Runs.{part_slice}
use Rattle.er7.specs.Path.{print_path, as_path}
use Rattle.er7.proofs.path.print.Goals as goal

pub copy_at-a-requires : goal.copy_at-a-requires
copy_at-a-requires c = omega (arith, path_length c.args.text.now c.args.p c.requires.0, ap length (part_slice c.args.text.now c.args.p.segment c.args.p.segment_len), name_length c.args.text.now c.args.p c.requires.0)

pub put_brackets-b-requires : goal.put_brackets-b-requires
put_brackets-b-requires c = omega (arith, path_length c.args.text.now c.args.p c.requires.0, ap length (part_slice c.args.text.now c.args.p.segment c.args.p.segment_len), name_length c.args.text.now c.args.p c.requires.0)

pub put_behind-c-requires : goal.put_behind-c-requires
put_behind-c-requires c = omega (arith, path_length c.args.text.now c.args.p c.requires.0, ap length (part_slice c.args.text.now c.args.p.segment c.args.p.segment_len), name_length c.args.text.now c.args.p c.requires.0)

pub put_brackets-d-requires : goal.put_brackets-d-requires
put_brackets-d-requires c = omega (arith, path_length c.args.text.now c.args.p c.requires.0, ap length (part_slice c.args.text.now c.args.p.segment c.args.p.segment_len), name_length c.args.text.now c.args.p c.requires.0)

pub put_behind-e-requires : goal.put_behind-e-requires
put_behind-e-requires c = omega (arith, path_length c.args.text.now c.args.p c.requires.0, ap length (part_slice c.args.text.now c.args.p.segment c.args.p.segment_len), name_length c.args.text.now c.args.p c.requires.0)

pub put_behind-requires : goal.put_behind-requires
put_behind-requires c = omega (arith, path_length c.args.text.now c.args.p c.requires.0, ap length (part_slice c.args.text.now c.args.p.segment c.args.p.segment_len), name_length c.args.text.now c.args.p c.requires.0)

pub returns : goal.returns
unfolding print_path as_path
returns c =
    let p = c.args in
    let name = rw (part_slice p.text.now p.p.segment p.p.segment_len) at c.copy_at-a.ensures in
    wrote_then name (wrote_then c.put_brackets-b.ensures (wrote_then c.put_behind-c.ensures (wrote_then c.put_brackets-d.ensures (wrote_then c.put_behind-e.ensures c.put_behind.ensures))))
