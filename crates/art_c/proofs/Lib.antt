mod Behind
mod HeldBox
