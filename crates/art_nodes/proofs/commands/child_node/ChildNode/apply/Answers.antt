use Rattle.std.proofs.Common.{ap, refl}
use Rattle.art_nodes.specs.declared.commands.command.ChildReply.TheVariants.{Child, Pair}
use Rattle.art_nodes.proofs.commands.child_node.ChildNode.apply.Goals as goal

pub returns-in-Write-clause-reply : goal.returns-in-Write-clause-reply
returns-in-Write-clause-reply g c = rw c.in-Write.is (ap Child c.write.ensures.old_child)

pub range-requires : goal.range-requires
range-requires g c = search

pub returns-in-Write-clause-children : goal.returns-in-Write-clause-children
returns-in-Write-clause-children g c = rw c.in-Write.is c.write.ensures.written

pub returns-in-Remove-clause-reply : goal.returns-in-Remove-clause-reply
returns-in-Remove-clause-reply g c = rw c.in-Remove.is (ap Child c.remove.ensures.old_child)

pub returns-in-Remove-clause-children : goal.returns-in-Remove-clause-children
returns-in-Remove-clause-children g c = rw c.in-Remove.is c.remove.ensures.removed

pub returns-in-Lookup-clause-reply : goal.returns-in-Lookup-clause-reply
returns-in-Lookup-clause-reply g c = rw (c.in-Lookup.is, ← c.self.view_is) (ap Child c.lookup_child.ensures)

pub returns-in-Lookup-clause-children : goal.returns-in-Lookup-clause-children
returns-in-Lookup-clause-children g c = rw c.in-Lookup.is refl

pub returns-in-Min-clause-reply : goal.returns-in-Min-clause-reply
returns-in-Min-clause-reply g c = rw (c.in-Min.is, ← c.self-in-Min.view_is) (ap Pair c.min.ensures)

pub returns-in-Min-clause-children : goal.returns-in-Min-clause-children
returns-in-Min-clause-children g c = rw c.in-Min.is refl

pub returns-in-Max-clause-reply : goal.returns-in-Max-clause-reply
returns-in-Max-clause-reply g c = rw (c.in-Max.is, ← c.self-in-Max.view_is) (ap Pair c.max.ensures)

pub returns-in-Max-clause-children : goal.returns-in-Max-clause-children
returns-in-Max-clause-children g c = rw c.in-Max.is refl

pub returns-in-Range-clause-reply : goal.returns-in-Range-clause-reply
returns-in-Range-clause-reply g c = rw c.in-Range.is c.range.ensures.reply
