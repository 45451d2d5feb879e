use Rattle.std.proofs.Common.{◌≡◌, ◌<◌, length, sym, ap, ◌∙◌, arith, get_or, set}
use Rattle.std.proofs.Math.ListN.{get_or-map}
use Rattle.std.proofs.lemmas.List.{map-set, length-map}
use Rattle.std.proofs.lemmas.List.Edits.{map_over_more}
use Rattle.arrays.specs.declared.disk.Disk.{Disk}
use Rattle.arrays.specs.Disks.{step_disk}
use Rattle.arrays.specs.Tables.{contents}
use Rattle.arrays.proofs.Tables.{arrivals_more, walk_here}
use Rattle.arrays.proofs.table.Table.step.Goals as goal

pub loop-disk-preserved : goal.loop-disk-preserved
loop-disk-preserved c =
    let ds = c.loop-disk.disk-items in
    let i = c.loop-disk.disk-index in
    let os = contents c.args.self.now.disks in
    let inv = c.loop-disk.invariant in
    let old = c.disk-item.result in
    let fetch = λ (d : Disk). d.fetch in
    let here = ap fetch c.disk-item.is in
    let inside : i < length os = omega (arith, length-map c.args.self.now.disks fetch, c.args.self.now.four, c.loop-disk-test.true) in
    let at : old.fetch ≡ get_or (contents ds) i old.fetch = here ∙ sym (get_or-map fetch ds i old) in
    let seen : (get_or ds i old).fetch ≡ get_or os i old.fetch = sym here ∙ at ∙ walk_here os (contents ds) i old.fetch inv.stepped in
    let more = arrivals_more os i old.fetch inside in
    record {
      stepped =
          map-set fetch ds i _
          ∙ ap (set (contents ds) i) (c.tick-arrived.ensures.disk ∙ ap step_disk (sym here))
          ∙ map_over_more step_disk os (contents ds) i old.fetch inside inv.stepped at;
      delivered = cc;
    }
