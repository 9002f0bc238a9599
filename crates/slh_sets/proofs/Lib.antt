mod Own
