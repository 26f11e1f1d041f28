use Rattle.std.proofs.Common.{◌∙◌, ap, subst, refl, ◌++◌, ◌∷◌}
use Rattle.dispatch_room_journal.specs.declared.entry_lines.EntryLine.{EntryLine}
use Rattle.dispatch_room_journal.specs.Entries.{IsLine, line_text}
use Rattle.dispatch_room_journal.proofs.EntryLemmas.{whole_line, whole_message, part_of_message}
use Rattle.dispatch_room_journal.proofs.EntryLemmas.{foreign_message}
use Rattle.dispatch_room_journal.proofs.entry_prefixes.look_after.Goals as goal

pub returns-in_default : goal.returns-in_default
returns-in_default c =
    whole_line c.args.bytes.now c.args.rest.now _ c.args.line c.requires.is_one c.in_default.not-Message
    c.requires.first refl refl refl

pub returns-then-rest-size : goal.returns-then-rest-size
returns-then-rest-size c =
    part_of_message c.args.bytes.now c.in-Message.at c.in-Message.size c.args.rest.now
    (subst (λ (l : EntryLine). IsLine l) c.in-Message.is c.requires.is_one)
    (c.requires.first ∙ ap (λ l. line_text l ++ 10 ∷ c.args.rest.now) c.in-Message.is) c.if-rest-size.true

pub returns-then-rest-size-ne10 : goal.returns-then-rest-size-ne10
returns-then-rest-size-ne10 c =
    foreign_message c.args.bytes.now c.in-Message.at c.in-Message.size c.args.rest.now
    (subst (λ (l : EntryLine). IsLine l) c.in-Message.is c.requires.is_one)
    (c.requires.first ∙ ap (λ l. line_text l ++ 10 ∷ c.args.rest.now) c.in-Message.is) c.if-rest-size.false
    c.if-rest-size-ne10.true

pub returns : goal.returns
returns c =
    whole_message c.args.bytes.now c.args.rest.now _ c.in-Message.at c.in-Message.size
    (subst (λ (l : EntryLine). IsLine l) c.in-Message.is c.requires.is_one)
    (c.requires.first ∙ ap (λ l. line_text l ++ 10 ∷ c.args.rest.now) c.in-Message.is) c.if-rest-size.false
    c.if-rest-size-ne10.false refl refl refl
