use Rattle.std.proofs.Common.{refl, ◌∙◌, ap}
use Rattle.std.specs.Option.{option_map}
use Rattle.raf_io.specs.Storage.{spliced}
use Rattle.raf.specs.Handle.{Handle}
use Rattle.raf.specs.Lending.{with_storage}
use Rattle.raf.proofs.Opened.{put_inside}
use Rattle.raf.proofs.laws.put_behind.Goals as goal

pub returns-in-Ok : goal.returns-in-Ok
returns-in-Ok g c = λ F held inside.
    let put = put_inside c.args.offset c.args.bytes.now held.bytes c.requires.behind inside in
    c.holds_again.ensures c.args.file.now (with_storage g.I.RafIo c.args.file.now c.write_at.new.self) F (spliced c.args.offset c.args.bytes.now held.bytes) held refl refl
    (c.in-Ok.ensures.written ∙ ap (option_map (spliced c.args.offset c.args.bytes.now)) (ap (λ (h : Handle). h.outside.bytes) c.storage_mut.ensures.value ∙ held.tells)) put.0 put.1
