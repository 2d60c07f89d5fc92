use Rattle.std.proofs.Common.{◌∙◌, ap, refl, subst, inl, inr}
use Rattle.raf_format.specs.Cipher.{cipher_of}
use Rattle.raf_format.specs.Version.{version_number}
use Rattle.raf.specs.Opening.{Settings}
use Rattle.raf.specs.Outside.{Outside}
use Rattle.raf_run.specs.Disk.{disk_of, disk_in}
use Rattle.raf_run.specs.Ends.{Ground, BuilderOf}
use Rattle.raf_run.specs.Logs.{LogServed}
use Rattle.raf_run.proofs.RunningLemmas.{set_up}
use Rattle.raf_run.proofs.LoggingLemmas.{log_anew}
use Rattle.raf_run.proofs.logging.run_on.Goals as goal

pub returns-in-Ok : goal.returns-in-Ok
returns-in-Ok g c =
    let b = c.args.builder in
    let G : Ground = record { cipher = cipher_of g.A.Algorithm.variant; key = g.A.Algorithm.key_list c.args.key.now; answers = g.H.MerkleHasher.hashing; most = b.most; setting = b.outside.setting; random = b.outside.left } in
    let made = c.version-maker.ensures ∙ ap (λ (s : Settings). record s { version = version_number c.in-Create.version }) c.chunk_size.ensures in
    let own : BuilderOf G b = record { truncate = c.requires.truncate; most = refl; setting = refl; left = refl; rng_faults = c.requires.source.0; asked = c.requires.source.1; exact = c.requires.source.2 } in
    let set = set_up G b c.version-maker.result c.in-Create.chunk_size c.in-Create.version own made in
    let opener = c.rng.result in
    let is = c.rng.ensures in
    let view = c.parts.view_is in
    let t = c.serve-in-Ok.ensures in
    let end = c.serve-in-Ok.result in
    let back = disk_of g.I.RafIo.bytes g.I.RafIo.durable g.I.RafIo.faults g.I.RafIo.reach g.I.RafIo.traffic g.I.RafIo.changes g.I.RafIo.strays end.io in
    let over : LogServed (record G { random = opener.outside.left }) opener c.args.commands.now (disk_in c.in-Ok.parts) end.outcome back =
    subst (λ (p : Outside). LogServed (record G { random = opener.outside.left }) opener c.args.commands.now (disk_in p) end.outcome back) view
    (record { after = t.after; meets = t.meets; sure = record { hash = t.sure.hash; rng = t.sure.rng }; handed = t.handed }) in
    let file = c.in-Ok.ensures.made in
    let disk = disk_of g.I.RafIo.bytes g.I.RafIo.durable g.I.RafIo.faults g.I.RafIo.reach g.I.RafIo.traffic g.I.RafIo.changes g.I.RafIo.strays c.args.io in
    rw c.in-Create.is (
      c.version-maker.result,
      set.0,
      set.1,
      set.2,
      inl (log_anew G c.version-maker.result opener c.args.commands.now disk end.outcome back file.0 c.in-Ok.parts set.0.left file.2 file.1
          (record { most = ap (λ (s : Settings). s.most) is ∙ c.requires.hasher.0; setting = ap (λ (s : Settings). s.outside.setting) is ∙ c.requires.hasher.1 })
          (ap (λ (s : Settings). s.outside.left) is ∙ ap (λ (o : Outside). o.left) view)
          (ap (λ (s : Settings). s.outside.rng_faults) is ∙ ap (λ (o : Outside). o.rng_faults) view)
          (ap (λ (s : Settings). s.outside.asked) is ∙ ap (λ (o : Outside). o.asked) view)
          (ap (λ (s : Settings). s.outside.exact) is ∙ ap (λ (o : Outside). o.exact) view)
          over),
    )

pub returns-in-Err : goal.returns-in-Err
returns-in-Err g c =
    let b = c.args.builder in
    let G : Ground = record { cipher = cipher_of g.A.Algorithm.variant; key = g.A.Algorithm.key_list c.args.key.now; answers = g.H.MerkleHasher.hashing; most = b.most; setting = b.outside.setting; random = b.outside.left } in
    let made = c.version-maker.ensures ∙ ap (λ (s : Settings). record s { version = version_number c.in-Create.version }) c.chunk_size.ensures in
    let own : BuilderOf G b = record { truncate = c.requires.truncate; most = refl; setting = refl; left = refl; rng_faults = c.requires.source.0; asked = c.requires.source.1; exact = c.requires.source.2 } in
    let set = set_up G b c.version-maker.result c.in-Create.chunk_size c.in-Create.version own made in
    let r = c.in-Err.ensures.refused in
    rw c.in-Create.is (
      c.version-maker.result,
      set.0,
      set.1,
      set.2,
      inr (c.in-Err.field-0.error, refl, record { after = r.after; error = r.error; refusal = r.refusal; refused = r.refused; sure = record { hash = r.sure.hash; rng = λ none. r.sure.rng (set.0.left ∙ none) }; handed = r.handed }),
    )
