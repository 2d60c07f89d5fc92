use Rattle.std.proofs.Common.{◌≡◌, ℕ, ◌+◌, List, [], ◌∷◌, ◌++◌, length, take, drop, Option, arith, rules, sym, ◌∙◌, ap, subst, vec_len, vec_capacity, ◌≤◌}
use Rattle.std.specs.Option.{option_to_list}
use Rattle.std.proofs.lemmas.List.{take_all, length-replicate}
use Rattle.raf_format.specs.Cipher.{cipher_of}
use Rattle.raf.specs.Handle.{hash_len_of}
use Rattle.raf.specs.Session.{room_of}
use Rattle.raf.specs.Ran.{room_for, Progress, Ended}
use Rattle.raf.specs.declared.command.Command.{Command}
use Rattle.raf.specs.declared.command.Reply.{Reply}
use Rattle.raf_format.proofs.Ciphers.{lawful}
use Rattle.raf.proofs.Runs.{rooms_next, commands_next, commands_split}
use Rattle.raf.proofs.Ends.{progress_none, progress_more, ended_whole, ended_cut}
use Rattle.raf.proofs.serving.answer_all.Goals as goal

pub loop-command-init : goal.loop-command-init
loop-command-init g c =
    let none : length c.args.replies.items ≡ 0 = ap length c.requires.none in
    let len : length c.args.replies.items ≡ vec_len c.args.replies = search rules in
    record {
      rooms = c.requires.rooms;
      capacity = c.requires.capacity;
      count = omega (arith, none, len);
      progress = progress_none (cipher_of g.A.Algorithm.variant) (lawful g.A.Algorithm.variant) g.H.MerkleHasher.hashing c.args.file.now c.args.replies.items c.requires.none;
    }

pub unwrap-room-requires : goal.unwrap-room-requires
unwrap-room-requires g c =
    let n = hash_len_of g.H.MerkleHasher.hashing c.args.file.now.outside.setting in
    let olds = c.loop-command.invariant.rooms ∙ rooms_next n c.args.commands.now c.loop-command.command-index c.command-item.result c.loop-command-test.true c.command-item.is in
    c.pop_front.ensures.variant.1 (omega (arith, ap length olds))

pub step-reply-requires : goal.step-reply-requires
step-reply-requires g c =
    let E = g.H.MerkleHasher.hashing in
    let n = hash_len_of E c.args.file.now.outside.setting in
    let olds = c.loop-command.invariant.rooms ∙ rooms_next n c.args.commands.now c.loop-command.command-index c.command-item.result c.loop-command-test.true c.command-item.is in
    let popped : c.loop-command.rooms.items ≡ c.unwrap-room.result ∷ c.pop_front.new.self.items = c.pop_front.ensures.items ∙ ap (λ (r : Option (List ℕ)). option_to_list r ++ c.pop_front.new.self.items) c.unwrap-room.ensures in
    let room : c.unwrap-room.result ≡ room_for n c.command-item.result = cc (olds, popped) in
    ap length room ∙ length-replicate {A = ℕ} (room_of n c.command-item.result) 0
    ∙ ap (λ (o : Option (List ℕ)). room_of (hash_len_of E o) c.command-item.result) (sym c.loop-command.invariant.progress.setting)

pub unwrap-requires : goal.unwrap-requires
unwrap-requires g c = c.push.ensures.succeeds (omega arith)

pub returns-then-fault : goal.returns-then-fault
returns-then-fault g c =
    let C = cipher_of g.A.Algorithm.variant in
    let E = g.H.MerkleHasher.hashing in
    let i = c.loop-command.command-index in
    let pushed : c.push.new.self.items ≡ c.loop-command.replies.items ++ c.step-reply.result ∷ [] = rw c.unwrap.ensures at c.push.ensures.items in
    let fails = sym c.is_fault-fault.ensures ∙ c.if-fault.true in
    subst (λ (l : List Reply). Ended C E c.args.file.now c.step-reply.new.file c.args.commands.now l) (sym pushed)
    (ended_cut C (lawful g.A.Algorithm.variant) E c.args.file.now c.loop-command.file c.step-reply.new.file (take i c.args.commands.now) c.command-item.result c.step-reply.result c.loop-command.replies.items
    c.loop-command.invariant.progress c.step-reply.ensures c.args.commands.now (drop (i + 1) c.args.commands.now) (commands_split c.args.commands.now i c.command-item.result c.loop-command-test.true c.command-item.is) fails)

pub loop-command-preserved : goal.loop-command-preserved
loop-command-preserved g c =
    let C = cipher_of g.A.Algorithm.variant in
    let E = g.H.MerkleHasher.hashing in
    let n = hash_len_of E c.args.file.now.outside.setting in
    let i = c.loop-command.command-index in
    let olds = c.loop-command.invariant.rooms ∙ rooms_next n c.args.commands.now i c.command-item.result c.loop-command-test.true c.command-item.is in
    let popped : c.loop-command.rooms.items ≡ c.unwrap-room.result ∷ c.pop_front.new.self.items = c.pop_front.ensures.items ∙ ap (λ (r : Option (List ℕ)). option_to_list r ++ c.pop_front.new.self.items) c.unwrap-room.ensures in
    let pushed : c.push.new.self.items ≡ c.loop-command.replies.items ++ c.step-reply.result ∷ [] = rw c.unwrap.ensures at c.push.ensures.items in
    let cap : vec_capacity c.loop-command.replies ≤ vec_capacity c.push.new.self = c.push.ensures.capacity in
    let len : vec_len c.push.new.self ≡ vec_len c.loop-command.replies + 1 = rw c.unwrap.ensures at c.push.ensures.len in
    let fine = sym c.is_fault-fault.ensures ∙ c.if-fault.false in
    record {
      rooms = cc (olds, popped);
      capacity = omega arith;
      count = omega arith;
      progress = subst (λ (l : List Reply). Progress C E c.args.file.now c.step-reply.new.file (take (i + 1) c.args.commands.now) l) (sym pushed)
          (subst (λ (l : List Command). Progress C E c.args.file.now c.step-reply.new.file l (c.loop-command.replies.items ++ c.step-reply.result ∷ []))
          (sym (commands_next c.args.commands.now i c.command-item.result c.loop-command-test.true c.command-item.is))
          (progress_more C (lawful g.A.Algorithm.variant) E c.args.file.now c.loop-command.file c.step-reply.new.file (take i c.args.commands.now) c.command-item.result c.step-reply.result c.loop-command.replies.items
          c.loop-command.invariant.progress c.step-reply.ensures fine));
    }

pub returns : goal.returns
returns g c =
    ended_whole (cipher_of g.A.Algorithm.variant) (lawful g.A.Algorithm.variant) g.H.MerkleHasher.hashing c.args.file.now c.loop-command.file c.args.commands.now
    (take c.loop-command.command-index c.args.commands.now) c.loop-command.replies.items (take_all c.loop-command.command-index c.args.commands.now c.loop-command-test.false) c.loop-command.invariant.progress
